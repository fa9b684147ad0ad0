use Rattle.lines.specs.Lines.{separator_of}
use borrow.Author.Tests.{eq-eqb, ne_eqb}
use Rattle.lines.proofs.separator.Goals as goal

pub returns-then-n-i-eq1 : goal.returns-then-n-i-eq1
unfolding separator_of
returns-then-n-i-eq1 c = rw (eq-eqb _ _ c.if-n-i-eq1.true)

pub returns-else-n-i-eq1 : goal.returns-else-n-i-eq1
unfolding separator_of
returns-else-n-i-eq1 c = rw (ne_eqb _ _ c.if-n-i-eq1.false)
