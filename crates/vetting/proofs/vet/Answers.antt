use mathlib.Core.Path.{◌≡◌, refl, ap, sym, ◌∙◌}
use mathlib.Core.List.{List}
use Prim.Native.Nat.{ℕ}
use lib.ListN.{length}
use native.Mathlib.Omega.{arith}
use borrow.Author.Rules.{rules}
use Rattle.std.specs.Prelude.{Result, Ok, Err}
use Rattle.std.proofs.lemmas.Result.{err_from_is_err_and}
use Rattle.refusals.specs.declared.Refusal.{Refusal}
use Rattle.refusals.specs.Refusals.{refusal_in}
use Rattle.condition.specs.declared.Condition.{Condition}
use Rattle.condition.proofs.Good.{Sized}
use Rattle.refusals.proofs.Laws.{numbered}
use Rattle.planner.specs.Answer.{Planned, planned, Counts}
use Rattle.planner.proofs.Refusals.{accepted, counted}
use Rattle.vetting.specs.Vetting.{long_refusal, vet_refusal}
use Rattle.vetting.proofs.Answers.{vet-accepted, vet-refused, vet-judged}
use Rattle.vetting.proofs.vet.Goals as goal
use Rattle.vetting.proofs.vet.Goals.{In_ok-least, Start}

abbrev Rows : Start → Type 0
Rows c = Sized c.args.c

rows : (c : Start) → Rows c
rows c = record { codes-40 = search rules; fonts-40 = search rules; users-96 = search rules; held-4 = search rules }

told : (r : Result ℕ Refusal) → refusal_in r ≡ (planned r).refusal
told (Ok n) = refl
told (Err refusal) = refl

-- the refusal number is that of the promise
told_number : (c : Condition) (wanted : List ℕ) (asked : ℕ) (string : List ℕ) (r : Result ℕ Refusal)
    → Counts c wanted asked (planned r)
    → long_refusal (refusal_in r) (length string) ≡ vet_refusal c wanted asked string
unfolding vet_refusal
told_number c wanted asked string r e = rw (told r ∙ ap (λ (p : Planned). p.refusal) e)

-- nothing is refused
abbrev Taken : In_ok-least → Type 0
Taken c =
    let a = c.args in
    0 ≡ vet_refusal a.c a.wanted.now a.asked a.string.now

taken : (c : In_ok-least) → Taken c
taken c = c.in_ok-least.ensures.number ∙ told_number _ _ _ _ _ c.count.ensures

pub returns-in_err-least : goal.returns-in_err-least
returns-in_err-least c =
    let e = err_from_is_err_and c.from_residual.result c.from_residual.ensures.1 in
    rw (e.1, e.2)
    (vet-refused _ _ _ _ (rows (goal.at.returns-in_err-least c).Start) _
    (c.in_err-least.ensures.number ∙ told_number _ _ _ _ _ c.count.ensures) (numbered _))

pub overflow_cast-asked : goal.overflow_cast-asked
overflow_cast-asked c =
    let ok = vet-accepted _ _ _ _ (sym (taken c)) in
    omega (arith, (accepted _ _ _ _ ok.0).0.asked-40)

pub judge-requires : goal.judge-requires
judge-requires c =
    let ok = vet-accepted _ _ _ _ (sym (taken c)) in
    (ok.0, ok.1, counted _ _ _ _ (rw c.in_ok-least.ensures.same at c.count.ensures) ok.0)

pub returns : goal.returns
returns c =
    vet-judged _ _ _ _ (rows (goal.at.returns c).Start) _ (taken (goal.at.returns c).In_ok-least) refl
    _ c.judge.ensures
