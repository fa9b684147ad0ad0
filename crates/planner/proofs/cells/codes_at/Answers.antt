use Rattle.condition.specs.Bytes.{clear_of}
use Rattle.planner.proofs.cells.codes_at.Goals as goal

pub returns-then-clear : goal.returns-then-clear
unfolding clear_of
returns-then-clear c = rw c.if-clear.true

pub returns-else-clear : goal.returns-else-clear
returns-else-clear c = rw c.if-clear.false
