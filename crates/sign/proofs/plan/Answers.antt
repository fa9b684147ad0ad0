use mathlib.Core.Path.{refl}
use borrow.Author.Tests.{eq-eqb, ne_eqb}
use Rattle.std.proofs.lemmas.Result.{err_from_is_err_and}
use Rattle.planner.specs.Answer.{plan_refusal}
use Rattle.planner.proofs.Refusals.{unformed}
use Rattle.sign.specs.Calls.{host_plan_refusal}
use Rattle.host.proofs.Once.{in_block}
use Rattle.refusals.proofs.Laws.{numbered}
use Rattle.sign.proofs.Hosted.{plan-short, plan-damaged, plan-done, plan-in}
use Rattle.sign.proofs.plan.Goals as goal

pub returns-then-codes-ne-CELLS : goal.returns-then-codes-ne-CELLS
unfolding host_plan_refusal
returns-then-codes-ne-CELLS c = plan-short _ _ _ _ _ _ (ne_eqb _ _ c.if-codes-ne-CELLS.true)

pub returns-in_err-c : goal.returns-in_err-c
unfolding host_plan_refusal
returns-in_err-c c =
    let e = err_from_is_err_and c.from_residual.result c.from_residual.ensures.1 in
    rw (e.1, e.2)
    (plan-damaged _ _ _ _ _ _ (eq-eqb _ _ c.if-codes-ne-CELLS.false) _ c.in_err-c.ensures (numbered _))

pub returns-in_err-length : goal.returns-in_err-length
unfolding host_plan_refusal plan_refusal
returns-in_err-length c =
    let e = err_from_is_err_and c.from_residual-in_err-length.result c.from_residual-in_err-length.ensures.1 in
    let fit = eq-eqb _ _ c.if-codes-ne-CELLS.false in
    let p = plan-in _ _ (in_block _ _ c.in_ok-c.ensures refl) _ _ _ _ _ c.in_err-length.ensures in
    rw (e.1, e.2)
    (plan-done _ _ _ _ _ _ fit _ c.in_ok-c.ensures _ _ _ refl (λ w. unformed _ _ _ _ _ _ fit w) p refl)

pub returns : goal.returns
unfolding host_plan_refusal plan_refusal
returns c =
    let fit = eq-eqb _ _ c.if-codes-ne-CELLS.false in
    let p = plan-in _ _ (in_block _ _ c.in_ok-c.ensures refl) _ _ _ _ _ c.in_ok-length.ensures in
    plan-done _ _ _ _ _ _ fit _ c.in_ok-c.ensures _ _ _ refl (λ w. unformed _ _ _ _ _ _ fit w) p (rw c.from.ensures)
