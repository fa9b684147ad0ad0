use Rattle.host.specs.Host.{host_answer}
use native.Mathlib.Omega.{arith}
use borrow.Author.Tests.{ne_eqb}
use Rattle.refusals.proofs.Laws.{numbered, most-11}
use Rattle.host.proofs.answer.Goals as goal

pub overflow_add-result : goal.overflow_add-result
overflow_add-result c = omega (arith, most-11 c.in-Err.refusal)

pub returns-in-Ok : goal.returns-in-Ok
unfolding host_answer
returns-in-Ok c = rw c.in-Ok.is

pub returns-in-Err : goal.returns-in-Err
unfolding host_answer
returns-in-Err c =
    rw (c.in-Err.is, c.base_of.ensures.0, c.from.ensures, ne_eqb _ 0 (numbered c.in-Err.refusal))
