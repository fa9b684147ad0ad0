use mathlib.Core.Path.{sym, ◌∙◌}
use native.Mathlib.Omega.{arith}
use Rattle.std.proofs.lemmas.Result.{err_from_is_err_and}
use Rattle.planner.proofs.Demand.{either-one-font}
use Rattle.planner.proofs.Refusals.{accepted, plan-given, not-counted, counted-one}
use Rattle.planner.proofs.count.Goals as goal

pub returns-in_err-check_plan : goal.returns-in_err-check_plan
returns-in_err-check_plan c =
    let p = err_from_is_err_and c.from_residual.result c.from_residual.ensures.1 in
    rw (p.1, p.2) (not-counted _ _ _ _ c.in_err-check_plan.ensures)

pub overflow_cast-task : goal.overflow_cast-task
overflow_cast-task c = omega (arith, (accepted _ _ _ _ (sym c.in_ok-check_plan.ensures)).0.asked-40)

pub invariant_of-task : goal.invariant_of-task
invariant_of-task c = record { given = plan-given _ _ _ (accepted _ _ _ _ (sym c.in_ok-check_plan.ensures)).0 }

pub returns : goal.returns
returns c =
    counted-one _ _ _ _ (sym c.in_ok-check_plan.ensures) (c.count.ensures ∙ rw either-one-font)
