-- What carrying bytes out answers.
use Prim.Native.Nat.{ℕ, ◌≤◌, ◌<◌}
use mathlib.Core.Path.{◌≡◌, refl, sym, ap, ◌∙◌}
use mathlib.Core.Bool.{Bool, true, false, cond, not, ◌&&◌}
use mathlib.Core.List.{List}
use native.Mathlib.Omega.{arith}
use lib.Dec.{ltb}
use lib.ListN.{length}
use borrow.Author.Tests.{eq-eqb, ne_eqb, lt-ltb, le-ltb, ltb-false, not-false}
use Rattle.laws.proofs.Tests.{passed, number_by}
use Rattle.std.specs.Prelude.{Result}
use Rattle.refusals.specs.declared.Refusal.{Refusal}
use Rattle.refusals.proofs.Laws.{one-answer}
use Rattle.row.specs.Row.{same_bytes}
use Rattle.index.specs.Index.{index_of, index_agrees}
use Rattle.condition.specs.declared.Condition.{Condition}
use Rattle.condition.specs.Condition.{well_formed}
use Rattle.condition.specs.Set.{reindexed}
use Rattle.condition.proofs.Good.{Sized, reindexed-same, good}
use Rattle.condition.proofs.Rows.{formed-by-list}
use Rattle.layout.specs.Layout.{packed_of, condition_in, unpacked_of}
use Rattle.layout.proofs.PackedBack.{enough, length-packed, packed-back}
use Rattle.inplace.specs.declared.Spent.{Spent}
use Rattle.inplace.specs.declared.After.{After as Accepted}
use Rattle.inplace.specs.InPlace.{LentIndex, Carried}
use Rattle.inplace.specs.Carry.{After, carry_refusal, untouched_of, after, carried_of, after_of}

-- a run on the condition c, packed as p, with entries x that are built from p
module _ (c : Condition) (p x : List ℕ) (s : Sized c) (e : p ≡ packed_of c) (n : length x ≡ 256)
    (built : LentIndex x (condition_in p)) where
  back : condition_in p ≡ reindexed c
  back = ap condition_in e ∙ packed-back c s

  -- what is told of it in the bytes, and of its index beside the entries, is whether it is well formed
  pub told : (f a : Bool) → f ≡ well_formed (unpacked_of p) → a ≡ same_bytes c.index x → (f && a) ≡ well_formed c
  unfolding index_agrees
  told f a g h =
      let long : 200 ≤ length p = omega (arith, ap length e ∙ length-packed c s) in
      let list : x ≡ index_of 256 c.users.bytes c.users.count = built ∙ rw (n, back) in
      rw (g ∙ ap well_formed (enough p long ∙ back), h, list) (formed-by-list c)

  module _ (w : well_formed c ≡ true) where
    same : condition_in p ≡ c
    same = back ∙ reindexed-same c (good c w).indexed

    pub starts : well_formed (condition_in p) ≡ true
    starts = ap well_formed same ∙ w

    pub carries : (after : List ℕ) (k : Condition) (bs : List ℕ) (spent : Spent) → k ≡ condition_in after
        → Carried (condition_in p) bs (condition_in after) spent → Carried c bs k spent
    carries after k bs spent f g = rw f (rw same at g)

module _ (c : Condition) (bs : List ℕ) (r : After) where
  -- refused, by its number
  untouched : (n : ℕ) → carry_refusal c bs ≡ n → (n ≡ 0 → ⊥) → r ≡ untouched_of n c → r ≡ after_of c bs
  unfolding after_of
  untouched n e h u = u ∙ sym (rw (e, ne_eqb n 0 h))

  pub not-formed : well_formed c ≡ false → r ≡ untouched_of 3 c → r ≡ after_of c bs
  unfolding carry_refusal
  not-formed w = untouched 3 (rw w) (λ z. omega arith)

  pub too_long : well_formed c ≡ true → 32768 < length bs → r ≡ untouched_of 4 c → r ≡ after_of c bs
  unfolding carry_refusal
  too_long w h = untouched 4 (rw (w, lt-ltb 32768 (length bs) h)) (λ z. omega arith)

  pub carried : well_formed c ≡ true → length bs ≤ 32768 → r.refusal ≡ 0
      → Carried c bs r.condition r.spent → r ≡ after_of c bs
  unfolding after_of carry_refusal
  carried w h z g =
      rw (w, le-ltb 32768 (length bs) h)
      (λ i. record { refusal = z i; condition = g.leaves i; spent = g.spends i })

  -- and what a caller learns from it
  pub refusal_is : r ≡ after_of c bs → r.refusal ≡ carry_refusal c bs
  unfolding after_of
  refusal_is e =
      ap (λ (a : After). a.refusal) e
      ∙ number_by (λ (a : After). a.refusal) (carry_refusal c bs) refl refl

  pub taken : r ≡ after_of c bs → r.refusal ≡ 0 → Carried c bs r.condition r.spent
  unfolding after_of
  taken e z =
      let f : r ≡ carried_of c bs = e ∙ rw (eq-eqb (carry_refusal c bs) 0 (sym (refusal_is e) ∙ z)) in
      record { leaves = ap (λ (a : After). a.condition) f; spends = ap (λ (a : After). a.spent) f }

-- what is carried out is well formed and not too long
pub accepts : (c : Condition) (bs : List ℕ) → carry_refusal c bs ≡ 0 → (well_formed c ≡ true) × (length bs ≤ 32768)
unfolding carry_refusal
accepts c bs e =
    let long = ltb 32768 (length bs) in
    let p = passed (not (well_formed c)) 2 (cond long 4 0) e in
    (not-false (well_formed c) p.0, omega (arith, ltb-false 32768 (length bs) (passed long 3 0 p.1).0))

-- any two answers of the code that are the same in the paper's words are the same
abbrev of-after : After → Accepted
of-after a = record { condition = a.condition; spent = a.spent }

pub one-after : (c : Condition) (r s : Result Accepted Refusal) → after c r ≡ after c s → r ≡ s
one-after c = one-answer (after c) (λ a. a.refusal) of-after (λ _. refl) (λ _. refl) (λ _. refl)
