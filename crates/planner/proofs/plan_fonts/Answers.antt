use mathlib.Core.Path.{◌≡◌, sym}
use mathlib.Core.Bool.{true}
use Prim.Native.Nat.{◌≤◌}
use native.Mathlib.Omega.{arith}
use lib.ListN.{length}
use Rattle.std.proofs.lemmas.Result.{err_from_is_err_and}
use Rattle.condition.specs.Steps.{either_start}
use Rattle.planner.specs.Fonts.{FontsDelivers}
use Rattle.planner.specs.Clear.{either_fonts_plan}
use Rattle.planner.specs.Answer.{fonts_refusal}
use Rattle.planner.proofs.Refusals.{FontsAccepted, fonts-accepted, fonts-plan-delivers, fonts-given}
use Rattle.planner.proofs.Refusals.{refused, taken-on}
use borrow.Author.Rules.{rules}
use Rattle.planner.proofs.plan_fonts.Goals as goal
use Rattle.planner.proofs.plan_fonts.Goals.{In_ok-check_fonts}

-- Where no refusal is given -----------------------------------------------------------------------------------------------------
abbrev Unrefused : In_ok-check_fonts → Type 0
Unrefused c =
    let a = c.args in
    fonts_refusal a.c a.wanted.now a.fonts.now a.asked (length a.out.now) ≡ 0

unrefused : (c : In_ok-check_fonts) → Unrefused c
unrefused c = sym c.in_ok-check_fonts.ensures

abbrev Accepts : In_ok-check_fonts → Type 0
Accepts c =
    let a = c.args in
    FontsAccepted a.c a.wanted.now a.fonts.now a.asked × (104 ≤ length a.out.now)

accepts : (c : In_ok-check_fonts) → Accepts c
accepts c = fonts-accepted _ _ _ _ _ (unrefused c)

abbrev Delivered : In_ok-check_fonts → Type 0
Delivered c =
    let a = c.args in
    FontsDelivers (either_start true) a.c a.wanted.now a.fonts.now a.asked
    (either_fonts_plan a.c a.wanted.now a.fonts.now a.asked)

delivered : (c : In_ok-check_fonts) → Delivered c
delivered c = fonts-plan-delivers _ _ _ _ _ (unrefused c) (search rules) (search rules)

pub returns-in_err-check_fonts : goal.returns-in_err-check_fonts
returns-in_err-check_fonts c =
    let p = err_from_is_err_and c.from_residual.result c.from_residual.ensures.1 in
    rw (p.1, p.2) (refused _ _ _ _ _ c.in_err-check_fonts.ensures)

pub overflow_cast-task : goal.overflow_cast-task
overflow_cast-task c = omega (arith, (fonts-accepted _ _ _ _ _ (sym c.in_ok-check_fonts.ensures)).0.codes.asked-40)

pub invariant_of-task : goal.invariant_of-task
invariant_of-task c =
    record { given = fonts-given _ _ _ _ (fonts-accepted _ _ _ _ _ (sym c.in_ok-check_fonts.ensures)).0 }

pub put-requires : goal.put-requires
put-requires c =
    omega (
      arith,
      (delivered (goal.at.put-requires c).In_ok-check_fonts).most,
      (accepts (goal.at.put-requires c).In_ok-check_fonts).1,
    )

pub overflow_cast-result : goal.overflow_cast-result
overflow_cast-result c =
    omega (arith, c.put.ensures.0, (delivered (goal.at.overflow_cast-result c).In_ok-check_fonts).most)

pub returns : goal.returns
returns c =
    taken-on _ _ _ _ _ _ (unrefused (goal.at.returns c).In_ok-check_fonts)
    (delivered (goal.at.returns c).In_ok-check_fonts) c.put.ensures
