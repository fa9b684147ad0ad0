-- An index built from the youngest place to the oldest.
use Prim.Native.Nat.{ℕ, suc, ◌+◌, ◌-◌, ◌*◌, ◌<◌, ◌≤◌}
use mathlib.Core.Path.{◌≡◌, sym, ◌∙◌, subst}
use mathlib.Core.List.{List}
use native.Mathlib.Omega.{arith}
use lib.Dec.{eqb}
use lib.ListN.{length, get_or, set, replicate, length-set, length-replicate, get_or-replicate}
use lib.Seq.{get_or-set_same, get_or-set_other}
use borrow.Author.Tests.{eqb-true, eqb-false}
use Rattle.laws.proofs.Tests.{by-test}
use Rattle.std.specs.Prelude.{Option, None, Some}
use Rattle.users.specs.Users.{place_of, limit_of, found_in}
use Rattle.index.specs.Index.{entry_of, index_of}
use Rattle.index.proofs.Entries.{is-index}

-- m entries, of the places from k on among n
pub record Built (us : List ℕ) (n k m : ℕ) (x : List ℕ) : Type 0 where
  pub size : length x ≡ m
  pub entry : (i : ℕ) → i < m → get_or x i 0 ≡ entry_of (place_of us i (n - k) k)

module _ (us : List ℕ) (n : ℕ) where
  pub built-none : (m : ℕ) → Built us n n m (replicate m 0)
  built-none m =
      let e : n - n ≡ 0 = omega arith in
      record { size = length-replicate m 0; entry = λ i h. rw e (get_or-replicate m i 0 0 h) }

  -- one place more: its code has it, every other code keeps what it has
  pub built-more : (k m : ℕ) (x : List ℕ) → k < n → Built us n (k + 1) m x → Built us n k m (set x (get_or us (k * 6) 0) (k + 1))
  built-more k m x h b = record { size = length-set x code (k + 1) ∙ b.size; entry = entry }
    where
      code : ℕ
      code = get_or us (k * 6) 0

      entry : (i : ℕ) → i < m → get_or (set x code (k + 1)) i 0 ≡ entry_of (place_of us i (n - k) k)
      entry i l =
          let e : n - k ≡ suc (n - (k + 1)) = omega arith in
          let z : i < length x = omega (arith, b.size) in
          rw e
          (by-test (λ (f : Option ℕ). get_or (set x code (k + 1)) i 0 ≡ entry_of f) (eqb code i)
          (λ t. let y : code ≡ i = eqb-true code i t in rw y (get_or-set_same x i (k + 1) 0 z))
          (λ t. get_or-set_other x code i (k + 1) 0 (λ d. eqb-false code i t (sym d)) ∙ b.entry i l))

  -- as the code counts: k goes down by one
  pub built-put : (k m : ℕ) (x : List ℕ) → 0 < k → k ≤ n → Built us n k m x
      → Built us n (k - 1) m (set x (get_or us ((k - 1) * 6) 0) (k - 1 + 1))
  built-put k m x h l b =
      let z : k ≡ k - 1 + 1 = omega arith in
      built-more (k - 1) m x (omega arith) (subst (λ (i : ℕ). Built us n i m x) z b)

-- from the oldest on it is all of them
pub built-all : (us : List ℕ) (count k : ℕ) (x : List ℕ) {m : ℕ} → k ≡ 0
    → Built us (limit_of us count) k m x → x ≡ index_of m us count
unfolding found_in
built-all us count k x {m} z b = is-index m us count x b.size (λ i h. all i (b.entry i h))
  where
    all : (i : ℕ) → get_or x i 0 ≡ entry_of (place_of us i (limit_of us count - k) k)
        → get_or x i 0 ≡ entry_of (place_of us i (limit_of us count) 0)
    all i e = let l : limit_of us count - k ≡ limit_of us count = omega arith in rw (l, z) at e
