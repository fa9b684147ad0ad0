use Rattle.vet.specs.Line.{verdict_line}
use Rattle.vet.proofs.told.Goals as goal

pub returns-in-Ok : goal.returns-in-Ok
returns-in-Ok c = rw c.in-Ok.is c.given.ensures

pub returns-in-Err : goal.returns-in-Err
unfolding verdict_line
returns-in-Err c = rw c.in-Err.is (rw c.into.ensures at c.refused.ensures)
