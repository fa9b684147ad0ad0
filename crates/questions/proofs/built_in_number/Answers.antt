use native.Mathlib.Omega.{arith}
use borrow.Author.Tests.{eq-eqb, ne_eqb}
use Rattle.questions.proofs.built_in_number.Goals as goal

pub returns-then-font-eq0 : goal.returns-then-font-eq0
returns-then-font-eq0 c = rw (eq-eqb _ _ c.if-font-eq0.true) (omega arith)

pub returns-else-font-eq0 : goal.returns-else-font-eq0
returns-else-font-eq0 c = rw (ne_eqb _ _ c.if-font-eq0.false) (omega arith)
