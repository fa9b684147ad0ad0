use mathlib.Core.Path.{◌≡◌, refl, sym, ap, ◌∙◌}
use mathlib.Core.Bool.{true}
use native.Mathlib.Omega.{arith}
use Rattle.std.proofs.lemmas.Result.{err_from_is_err_and}
use Rattle.inplace.specs.Carry.{carry_refusal}
use Rattle.inplace.specs.InPlace.{Carried}
use Rattle.inplace.proofs.Running.{Small}
use Rattle.inplace.proofs.Carrying.{refusal_is, taken, accepts}
use Rattle.interpreter.specs.Run.{within_limit}
use Rattle.refusals.proofs.Laws.{numbered}
use Rattle.interpreter.proofs.Answers.{Within, within, above-limit-is, not_carried-is, passes-limit-is, accepted-is, adds, tallies}
use Rattle.interpreter.proofs.Answers.{ran_as}
use Rattle.interpreter.proofs.run_on.Goals as goal
use Rattle.interpreter.proofs.run_on.Goals.{In_ok-condition}

-- the tally is within its limits
limited : (c : In_ok-condition) → within_limit c.args.t.now ≡ true
limited c = sym c.is_within_limit.ensures ∙ c.if-not-is_within_limit.false

-- the bytes were carried out, and what they did
whole : (c : In_ok-condition) → carry_refusal c.args.c.now c.args.bytes.now ≡ 0
whole c = sym (refusal_is _ _ _ c.in_ok-condition.ensures)

did : (c : In_ok-condition)
    → Carried c.args.c.now c.args.bytes.now c.in_ok-condition.field-0.condition c.in_ok-condition.field-0.spent
did c = taken _ _ _ c.in_ok-condition.ensures refl

-- what is added fits: the tally is within its limits, and the bytes add little
fits : (c : In_ok-condition) → Within c.args.t.now × Small c.in_ok-condition.field-0.spent
fits c = (within _ (limited c), adds _ _ _ _ (did c) (accepts _ _ (whole c)).1)

pub returns-then-not-is_within_limit : goal.returns-then-not-is_within_limit
returns-then-not-is_within_limit c =
    above-limit-is _ _ _ _ (sym c.is_within_limit.ensures ∙ c.if-not-is_within_limit.true) refl

pub returns-in_err-condition : goal.returns-in_err-condition
returns-in_err-condition c =
    let p = err_from_is_err_and c.from_residual.result c.from_residual.ensures.1 in
    rw (p.1, p.2)
    (not_carried-is _ _ _ _ (sym c.is_within_limit.ensures ∙ c.if-not-is_within_limit.false) _
    (refusal_is _ _ _ c.in_err-condition.ensures) (numbered _) refl)

pub overflow_cast-tally : goal.overflow_cast-tally
overflow_cast-tally c = omega (arith, (accepts _ _ (whole (goal.at.overflow_cast-tally c).In_ok-condition)).1)

pub overflow_add-tally : goal.overflow_add-tally
overflow_add-tally c =
    let k = (goal.at.overflow_add-tally c).In_ok-condition in
    omega (arith, fits k, (accepts _ _ (whole k)).1)

pub overflow_add-tally-2 : goal.overflow_add-tally-2
overflow_add-tally-2 c = omega (arith, fits (goal.at.overflow_add-tally-2 c).In_ok-condition)

pub overflow_add-tally-3 : goal.overflow_add-tally-3
overflow_add-tally-3 c = omega (arith, fits (goal.at.overflow_add-tally-3 c).In_ok-condition)

pub overflow_add-tally-4 : goal.overflow_add-tally-4
overflow_add-tally-4 c = omega (arith, fits (goal.at.overflow_add-tally-4 c).In_ok-condition)

pub returns-then-not-is_within_limit-2 : goal.returns-then-not-is_within_limit-2
returns-then-not-is_within_limit-2 c =
    let k = (goal.at.returns-then-not-is_within_limit-2 c).In_ok-condition in
    passes-limit-is _ _ _ _ (limited k) (whole k)
    (sym (ap within_limit (tallies _ _ _ _ (did k) _)) ∙ sym c.is_within_limit-2.ensures ∙ c.if-not-is_within_limit-2.true)
    refl

pub returns : goal.returns
returns c =
    let k = (goal.at.returns c).In_ok-condition in
    accepted-is _ _ _ _ (limited k) (whole k)
    (sym (ap within_limit (tallies _ _ _ _ (did k) _)) ∙ sym c.is_within_limit-2.ensures ∙ c.if-not-is_within_limit-2.false)
    (ran_as _ _ _ _ (did k) _)
