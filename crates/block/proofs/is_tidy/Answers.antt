use Rattle.block.specs.Tidy.{tidy}
use Rattle.block.proofs.is_tidy.Goals as goal

pub returns : goal.returns
unfolding tidy
returns c =
    rw (c.up_to.ensures, c.kind_good.ensures, c.requires)
