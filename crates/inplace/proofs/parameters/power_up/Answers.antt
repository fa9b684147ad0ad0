use Rattle.condition.specs.Condition.{power_up}
use Rattle.index.proofs.Entries.{index-none}
use Rattle.inplace.proofs.InPlace.{link_at}
use Rattle.inplace.proofs.parameters.power_up.Goals as goal

pub returns : goal.returns
unfolding power_up
returns c =
    rw (c.reset.ensures, c.forget.ensures, c.blank.ensures)
    (simp (link_at, index-none))
