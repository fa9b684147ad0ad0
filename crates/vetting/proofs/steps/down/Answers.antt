use Rattle.moves.specs.Moves.{down}
use borrow.Author.Tests.{le-ltb, lt-ltb}
use Rattle.vetting.proofs.steps.down.Goals as goal

pub returns-then-p-lt-COLUMNS : goal.returns-then-p-lt-COLUMNS
unfolding down
returns-then-p-lt-COLUMNS c = rw (lt-ltb _ _ c.if-p-lt-COLUMNS.true)

pub returns-else-p-lt-COLUMNS : goal.returns-else-p-lt-COLUMNS
unfolding down
returns-else-p-lt-COLUMNS c = rw (le-ltb _ _ c.if-p-lt-COLUMNS.false)
