-- Any two answers of a query that are the same in the paper's words are the same.
use Prim.Native.Nat.{ℕ}
use mathlib.Core.Path.{◌≡◌, refl}
use Rattle.std.specs.Prelude.{Result}
use Rattle.refusals.specs.declared.Refusal.{Refusal}
use Rattle.refusals.proofs.Laws.{one-answer}
use Rattle.glass.specs.declared.Shows.{Shows}
use Rattle.glass.specs.Answers.{seen, answer}

pub one-seen : (r s : Result Shows Refusal) → seen r ≡ seen s → r ≡ s
one-seen = one-answer seen (λ a. a.refusal) (λ a. a.shows) (λ _. refl) (λ _. refl) (λ _. refl)

pub one-asked : (r s : Result ℕ Refusal) → answer r ≡ answer s → r ≡ s
one-asked = one-answer answer (λ a. a.refusal) (λ a. a.value) (λ _. refl) (λ _. refl) (λ _. refl)
