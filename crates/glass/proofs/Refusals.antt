-- A condition that is not well formed is refused by 3, whatever is asked.
use Prim.Native.Nat.{ℕ}
use mathlib.Core.Path.{◌≡◌, refl}
use mathlib.Core.Bool.{false, ◌&&◌}
use lib.Dec.{leb}
use Rattle.condition.specs.declared.Condition.{Condition}
use Rattle.condition.specs.Condition.{well_formed}
use Rattle.laws.proofs.Tests.{by-test}
use Rattle.glass.specs.Answers.{Answer}
use Rattle.glass.specs.Answers.{lookup_of, view_answer, dot_answer, underline_answer, lit_answer}

module _ (c : Condition) (w : well_formed c ≡ false) where
  pub view-unformed : (position : ℕ) → (view_answer c position).refusal ≡ 3
  unfolding view_answer
  view-unformed position = rw w

  pub dot-unformed : (code k : ℕ) → (dot_answer c code k).refusal ≡ 3
  unfolding dot_answer lookup_of
  dot-unformed code k = rw w (by-test (λ (a : Answer). a.refusal ≡ 3) (leb 1 k && leb k 35) (λ _. refl) (λ _. refl))

  pub underline-unformed : (code : ℕ) → (underline_answer c code).refusal ≡ 3
  unfolding underline_answer lookup_of
  underline-unformed code = rw w

  pub lit-unformed : (code : ℕ) → (lit_answer c code).refusal ≡ 3
  unfolding lit_answer lookup_of
  lit-unformed code = rw w
