use native.Mathlib.Omega.{arith}
use Rattle.host.specs.Host.{host_answer}
use borrow.Author.Tests.{eq-eqb, ne_eqb}
use Rattle.host.proofs.answer_by.Goals as goal

pub returns-then-refusal-ne0 : goal.returns-then-refusal-ne0
unfolding host_answer
returns-then-refusal-ne0 c =
    rw (c.base_of.ensures.0, c.from.ensures, ne_eqb c.args.refusal 0 (λ e. omega (arith, e, c.if-refusal-ne0.true)))

pub returns : goal.returns
unfolding host_answer
returns c = rw (eq-eqb c.args.refusal 0 (omega (arith, c.if-refusal-ne0.false)))
