-- What the host's questions answer, by where they stop.
use mathlib.Core.Path.{◌≡◌, refl, ap, ◌∙◌}
use mathlib.Core.Bool.{false}
use mathlib.Core.List.{List}
use Prim.Native.Nat.{ℕ}
use borrow.Author.Tests.{ne_eqb}
use Rattle.std.specs.Prelude.{Result, Ok, Err}
use Rattle.laws.proofs.Tests.{by_equal}
use Rattle.refusals.specs.declared.Refusal.{Refusal}
use Rattle.refusals.specs.Refusals.{refusal_in}
use Rattle.condition.specs.declared.Condition.{Condition}
use Rattle.condition.specs.Condition.{well_formed}
use Rattle.glass.specs.Answers.{Answer, answer}
use Rattle.layout.specs.Layout.{condition_in}
use Rattle.host.specs.Host.{opened_of, value_in, host_answer}
use Rattle.host.proofs.Once.{damaged-by, in_block, left-to}
use Rattle.questions.specs.Questions.{host_asked, host_told, Asked}

-- the parts of an answer
parts : (value : Result ℕ Refusal) (a : Answer) → answer value ≡ a → (refusal_in value ≡ a.refusal) × (value_in value ≡ a.value)
parts (Ok n) a e = (ap (λ (a : Answer). a.refusal) e, ap (λ (a : Answer). a.value) e)
parts (Err refusal) a e = (ap (λ (a : Answer). a.refusal) e, ap (λ (a : Answer). a.value) e)

module _ (b : List ℕ) (Answers : Condition → Result ℕ Refusal → Type 0) (ask : Condition → Answer)
    (by : (c : Condition) (value : Result ℕ Refusal) → Answers c value → answer value ≡ ask c)
    (unformed : well_formed (condition_in b) ≡ false → (ask (condition_in b)).refusal ≡ 3) (r : ℕ) (q : Asked Answers b r) where
  pub told : r ≡ host_told b (ask (condition_in b))
  unfolding host_asked host_answer
  told =
      by_equal (opened_of b).refusal 0
      (λ z. let w = q.whole z in let p = parts w.0 _ (by _ _ w.1) in
      w.2 ∙ rw (p.0, p.1, in_block b (opened_of b) refl z, left-to b (opened_of b) refl z _ unformed))
      (λ z. let e = q.damaged z in e ∙ rw (damaged-by b (opened_of b) refl (ask (condition_in b)).refusal z)
      (simp (ne_eqb (opened_of b).refusal 0 z)))
