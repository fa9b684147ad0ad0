use Rattle.block.proofs.is_rest_zero.Goals as goal

pub returns : goal.returns
returns c = c.up_to.ensures
