use native.Mathlib.Omega.{arith}
use Rattle.sign.proofs.yes_number.Goals as goal

pub overflow_add-result : goal.overflow_add-result
overflow_add-result c = omega (arith, rw c.in-Yes.is at c.requires)

pub returns-in-Yes : goal.returns-in-Yes
returns-in-Yes c = rw c.in-Yes.is
