use native.Mathlib.Omega.{arith}
use Rattle.refusals.proofs.Laws.{most-11}
use Rattle.sign.proofs.vet_number.Goals as goal

pub overflow_add-result : goal.overflow_add-result
overflow_add-result c = omega (arith, most-11 c.in-Err.refusal)

pub yes_number-requires : goal.yes_number-requires
yes_number-requires c = rw c.in-Ok.is at c.requires

pub returns-in-Ok : goal.returns-in-Ok
returns-in-Ok c = rw c.in-Ok.is c.yes_number.ensures

pub returns-in-Err : goal.returns-in-Err
returns-in-Err c = rw c.in-Err.is (omega arith)
