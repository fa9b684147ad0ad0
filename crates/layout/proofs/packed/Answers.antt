use Rattle.layout.specs.Layout.{packed_of}
use Rattle.layout.proofs.packed.Goals as goal

pub returns : goal.returns
unfolding packed_of
returns c = rw (c.lay.ensures, c.head.ensures)
