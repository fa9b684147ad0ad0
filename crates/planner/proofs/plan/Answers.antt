use mathlib.Core.Path.{◌≡◌, sym, ap}
use mathlib.Core.Bool.{false}
use Prim.Native.Nat.{◌≤◌}
use native.Mathlib.Omega.{arith}
use lib.ListN.{length, replicate}
use Rattle.std.proofs.lemmas.Result.{err_from_is_err_and}
use Rattle.condition.specs.Steps.{either_start}
use Rattle.planner.specs.Plan.{Delivers}
use Rattle.planner.specs.Clear.{either_plan, either_fonts_plan}
use Rattle.planner.specs.Answer.{plan_refusal}
use Rattle.planner.proofs.Demand.{either-one-font}
use Rattle.planner.proofs.Putting.{put_same}
use Rattle.planner.proofs.Refusals.{Accepted, accepted, plan-delivers, plan-given, refused, taken-on}
use borrow.Author.Rules.{rules}
use Rattle.planner.proofs.plan.Goals as goal
use Rattle.planner.proofs.plan.Goals.{In_ok-check_plan}

-- Where no refusal is given -----------------------------------------------------------------------------------------------------
abbrev Unrefused : In_ok-check_plan → Type 0
Unrefused c =
    let a = c.args in
    plan_refusal a.c a.wanted.now a.asked (length a.out.now) ≡ 0

unrefused : (c : In_ok-check_plan) → Unrefused c
unrefused c = sym c.in_ok-check_plan.ensures

abbrev Accepts : In_ok-check_plan → Type 0
Accepts c =
    let a = c.args in
    Accepted a.c a.wanted.now a.asked × (44 ≤ length a.out.now)

accepts : (c : In_ok-check_plan) → Accepts c
accepts c = accepted _ _ _ _ (unrefused c)

abbrev Delivered : In_ok-check_plan → Type 0
Delivered c =
    let a = c.args in
    Delivers (either_start false) a.c a.wanted.now a.asked (either_plan a.c a.wanted.now a.asked)

delivered : (c : In_ok-check_plan) → Delivered c
delivered c = plan-delivers _ _ _ _ (unrefused c) (search rules) (search rules)

-- the bytes that are put are those of the plan in one font
abbrev Same : In_ok-check_plan → Type 0
Same c =
    let a = c.args in
    either_fonts_plan a.c a.wanted.now (replicate 40 a.c.font) a.asked ≡ either_plan a.c a.wanted.now a.asked

same : (c : In_ok-check_plan) → Same c
same c = either-one-font _ _ _

pub returns-in_err-check_plan : goal.returns-in_err-check_plan
returns-in_err-check_plan c =
    let p = err_from_is_err_and c.from_residual.result c.from_residual.ensures.1 in
    rw (p.1, p.2) (refused _ _ _ _ _ c.in_err-check_plan.ensures)

pub overflow_cast-task : goal.overflow_cast-task
overflow_cast-task c = omega (arith, (accepted _ _ _ _ (sym c.in_ok-check_plan.ensures)).0.asked-40)

pub invariant_of-task : goal.invariant_of-task
invariant_of-task c = record { given = plan-given _ _ _ (accepted _ _ _ _ (sym c.in_ok-check_plan.ensures)).0 }

pub put-requires : goal.put-requires
put-requires c =
    omega (
      arith,
      ap length (same (goal.at.put-requires c).In_ok-check_plan),
      (delivered (goal.at.put-requires c).In_ok-check_plan).most,
      (accepts (goal.at.put-requires c).In_ok-check_plan).1,
    )

pub overflow_cast-result : goal.overflow_cast-result
overflow_cast-result c =
    omega (
      arith,
      c.put.ensures.0,
      ap length (same (goal.at.overflow_cast-result c).In_ok-check_plan),
      (delivered (goal.at.overflow_cast-result c).In_ok-check_plan).most,
    )

pub returns : goal.returns
returns c =
    taken-on _ _ _ _ _ _ (unrefused (goal.at.returns c).In_ok-check_plan) (delivered (goal.at.returns c).In_ok-check_plan)
    (put_same _ _ _ _ _ c.put.ensures (same (goal.at.returns c).In_ok-check_plan))
