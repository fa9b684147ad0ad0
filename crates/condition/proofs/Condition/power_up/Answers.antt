use Rattle.condition.specs.Condition.{power_up_answer}
use borrow.Author.Tests.{le-leb, lt-leb}
use Rattle.condition.proofs.Condition.power_up.Goals as goal

pub returns-then-from-font : goal.returns-then-from-font
unfolding power_up_answer
returns-then-from-font c = rw (lt-leb _ _ (rw c.from.ensures at c.if-from-font.true))

pub returns : goal.returns
unfolding power_up_answer
returns c = rw (c.powered.ensures, le-leb _ _ (rw c.from.ensures at c.if-from-font.false))
