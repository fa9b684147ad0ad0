use mathlib.Core.Path.{◌≡◌, refl, sym, ◌∙◌}
use mathlib.Core.Bool.{true, false}
use Rattle.std.specs.Prelude.{Result, Ok, Err}
use Rattle.std.specs.Result.{is_ok}
use Rattle.refusals.specs.declared.Refusal.{Refusal}
use Rattle.refusals.proofs.Laws.{numbered}
use Rattle.condition.specs.declared.Condition.{Condition}
use Rattle.condition.specs.Condition.{outcome}
use Rattle.salvage.proofs.Turns.{read-refused, read-accepted}
use Rattle.salvage.proofs.blocks.StandIn.judge.Goals as goal

when-ok : (r : Result Condition Refusal) → is_ok r ≡ true → (outcome r).refusal ≡ 0
when-ok (Ok c) h = refl
when-ok (Err e) h = cc

when-err : (r : Result Condition Refusal) → is_ok r ≡ false → (outcome r).refusal ≡ 0 → ⊥
when-err (Ok c) h = λ _. cc
when-err (Err e) h = numbered e

pub returns-then-is_ok : goal.returns-then-is_ok
returns-then-is_ok c =
    read-accepted _ _ _ _ _ c.read.ensures (when-ok _ (sym c.is_ok.ensures.value ∙ c.if-is_ok.true))

pub returns-else-is_ok : goal.returns-else-is_ok
returns-else-is_ok c =
    read-refused _ _ _ _ _ c.read.ensures (when-err _ (sym c.is_ok.ensures.value ∙ c.if-is_ok.false))
