-- What each way through the entry answers and leaves.
use Prim.Native.Nat.{ℕ}
use mathlib.Core.Path.{◌≡◌, refl, sym, ap, ◌∙◌}
use mathlib.Core.Bool.{Bool, true, false, cond}
use mathlib.Core.List.{List}
use native.Mathlib.Omega.{arith}
use lib.Dec.{eqb}
use lib.ListN.{length}
use borrow.Author.Tests.{eq-eqb, ne_eqb, eqb-true}
use Rattle.laws.proofs.Tests.{both}
use Rattle.std.specs.Prelude.{Ok, Err}
use Rattle.refusals.specs.declared.Refusal.{Refusal}
use Rattle.refusals.specs.declared.Refusal.TheVariants.{WrongLength}
use Rattle.lounge.specs.declared.Lounge.{Lounge}
use Rattle.lounge.specs.Head.{head_of, lounge_in}
use Rattle.lounge.specs.Run.{Ran, run_answer}
use Rattle.lounge_entry.specs.Entry.{sizes_right, condition_in, refusal_in, RunIn}

module _ (h codes marks us : List ℕ) where
  pub sizes : sizes_right h codes marks us ≡ true
      → (length h ≡ 13) × (length codes ≡ 40) × (length marks ≡ 40) × (length us ≡ 48)
  unfolding sizes_right
  sizes e =
      let p₃ = both _ (eqb (length us) 48) e in
      let p₂ = both _ (eqb (length marks) 40) p₃.0 in
      let p₁ = both (eqb (length h) 13) (eqb (length codes) 40) p₂.0 in
      (eqb-true _ _ p₁.0, eqb-true _ _ p₁.1, eqb-true _ _ p₂.1, eqb-true _ _ p₃.1)

  -- the condition that stands in the slices
  pub stands : (c : Lounge) → Ok c ≡ condition_in h codes marks us
      → (sizes_right h codes marks us ≡ true) × (c ≡ lounge_in h codes marks us)
  unfolding condition_in
  stands c e = go (sizes_right h codes marks us) e refl
    where
      go : (t : Bool) → Ok c ≡ cond t (Ok (lounge_in h codes marks us)) (Err WrongLength) → sizes_right h codes marks us ≡ t
          → (sizes_right h codes marks us ≡ true) × (c ≡ lounge_in h codes marks us)
      go true f s = (s, cc)
      go false f s = let z : ⊥ = cc in absurd z

  -- none does
  pub no-sizes : (e : Refusal) → Err e ≡ condition_in h codes marks us
      → (sizes_right h codes marks us ≡ false) × (e ≡ WrongLength)
  unfolding condition_in
  no-sizes e f = go (sizes_right h codes marks us) f refl
    where
      go : (t : Bool) → Err e ≡ cond t (Ok (lounge_in h codes marks us)) (Err WrongLength) → sizes_right h codes marks us ≡ t
          → (sizes_right h codes marks us ≡ false) × (e ≡ WrongLength)
      go true f s = let z : ⊥ = cc in absurd z
      go false f s = (s, cc)

  module _ (bs : List ℕ) where
    -- nothing changes where it is refused
    stays : (n : ℕ) → refusal_in h codes marks us bs ≡ n → (n ≡ 0 → ⊥) → RunIn h codes marks us bs h codes marks us n
    stays n e d =
        let same : eqb (refusal_in h codes marks us bs) 0 ≡ false = rw e (ne_eqb n 0 d) in
        record { answer = sym e; head-after = rw same; codes-after = rw same; marks-after = rw same; users-after = rw same }

    pub wrong-sizes : sizes_right h codes marks us ≡ false → RunIn h codes marks us bs h codes marks us 1
    unfolding refusal_in
    wrong-sizes e = stays 1 (rw e) (λ z. omega arith)

    module _ (s : sizes_right h codes marks us ≡ true) (c : Lounge) (l : c ≡ lounge_in h codes marks us) (r : Ran)
        (a : r ≡ run_answer c bs) where
      ran : refusal_in h codes marks us bs ≡ r.refusal
      unfolding refusal_in
      ran = rw s (ap (λ (k : Lounge). (run_answer k bs).refusal) (sym l) ∙ ap (λ (k : Ran). k.refusal) (sym a))

      pub not-run : (r.refusal ≡ 0 → ⊥) → RunIn h codes marks us bs h codes marks us r.refusal
      not-run = stays r.refusal ran

      after : (run_answer (lounge_in h codes marks us) bs).condition ≡ r.condition
      after = ap (λ (k : Lounge). (run_answer k bs).condition) (sym l) ∙ ap (λ (k : Ran). k.condition) (sym a)

      pub is-run : (h' codes' marks' us' : List ℕ) → r.refusal ≡ 0 → h' ≡ head_of r.condition → codes' ≡ r.condition.codes
          → marks' ≡ r.condition.marks → us' ≡ r.condition.users → RunIn h codes marks us bs h' codes' marks' us' 0
      is-run h' codes' marks' us' z eh ec em eu =
          let given : eqb (refusal_in h codes marks us bs) 0 ≡ true = eq-eqb _ 0 (ran ∙ z) in
          record {
            answer = sym (ran ∙ z);
            head-after = eh ∙ rw (given, after);
            codes-after = ec ∙ rw (given, after);
            marks-after = em ∙ rw (given, after);
            users-after = eu ∙ rw (given, after);
          }

-- any two answers that the contract allows, with what they leave, are equal
pub one-entry-run : (h codes marks us bs h₁ codes₁ marks₁ us₁ h₂ codes₂ marks₂ us₂ : List ℕ) (r s : ℕ)
    → RunIn h codes marks us bs h₁ codes₁ marks₁ us₁ r → RunIn h codes marks us bs h₂ codes₂ marks₂ us₂ s
    → (r ≡ s) × (h₁ ≡ h₂) × (codes₁ ≡ codes₂) × (marks₁ ≡ marks₂) × (us₁ ≡ us₂)
one-entry-run h codes marks us bs h₁ codes₁ marks₁ us₁ h₂ codes₂ marks₂ us₂ r s p q = (
  p.answer ∙ sym q.answer,
  p.head-after ∙ sym q.head-after,
  p.codes-after ∙ sym q.codes-after,
  p.marks-after ∙ sym q.marks-after,
  p.users-after ∙ sym q.users-after,
)
