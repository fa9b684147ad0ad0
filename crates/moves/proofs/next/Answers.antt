use borrow.Author.Tests.{lt-ltb, le-ltb}
use Rattle.moves.specs.Moves.{next}
use Rattle.moves.proofs.next.Goals as goal

pub returns-then-p-lt-LAST_PLACE : goal.returns-then-p-lt-LAST_PLACE
unfolding next
returns-then-p-lt-LAST_PLACE c = rw (lt-ltb _ _ c.if-p-lt-LAST_PLACE.true)

pub returns-else-p-lt-LAST_PLACE : goal.returns-else-p-lt-LAST_PLACE
unfolding next
returns-else-p-lt-LAST_PLACE c = rw (le-ltb _ _ c.if-p-lt-LAST_PLACE.false)
