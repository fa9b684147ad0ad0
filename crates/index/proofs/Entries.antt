-- The entries of an index, one by one, and what agreement tells.
use Prim.Native.Nat.{ℕ, zero, suc, ◌+◌, ◌<◌, ◌≤◌}
use mathlib.Core.Path.{◌≡◌, refl, sym, ap, ◌∙◌}
use mathlib.Core.List.{List}
use mathlib.Core.Logic.{◌↔◌}
use mathlib.Core.Bool.{true, not}
use native.Mathlib.Omega.{arith}
use lib.Dec.{eqb}
use lib.ListN.{length, get_or, replicate, length-replicate, get_or-replicate}
use lib.Seq.{ext_get_or}
use borrow.Author.Tests.{ne_eqb}
use Rattle.row.proofs.Alike.{same_refl, same-eq}
use Rattle.std.specs.Prelude.{Option, None, Some}
use Rattle.std.specs.Option.{is_some}
use Rattle.users.specs.Users.{limit_of, found_in}
use Rattle.users.proofs.Laws.{found_below}
use Rattle.index.specs.Index.{entry_of, entries_from, index_of, index_agrees}

entries-length : (us : List ℕ) (count n code : ℕ) → length (entries_from us count n code) ≡ n
unfolding entries_from
entries-length us count zero code = refl
entries-length us count (suc n) code = ap suc (entries-length us count n (code + 1))

entries_at : (us : List ℕ) (count n code i : ℕ) → i < n
    → get_or (entries_from us count n code) i 0 ≡ entry_of (found_in us count (code + i))
unfolding entries_from
entries_at us count zero code i h = omega arith
entries_at us count (suc n) code zero h = ap (λ (m : ℕ). entry_of (found_in us count m)) (omega arith)
entries_at us count (suc n) code (suc i) h =
    entries_at us count n (code + 1) i (omega arith) ∙ ap (λ (m : ℕ). entry_of (found_in us count m)) (omega arith)

module _ (n : ℕ) (us : List ℕ) (count : ℕ) where
  pub index-length : length (index_of n us count) ≡ n
  unfolding index_of
  index-length = entries-length us count n 0

  -- the entry of a code is its place
  pub index_at : (i : ℕ) → i < n → get_or (index_of n us count) i 0 ≡ entry_of (found_in us count i)
  unfolding index_of
  index_at i h = entries_at us count n 0 i h ∙ ap (λ (m : ℕ). entry_of (found_in us count m)) (omega arith)

  -- and what has these entries is the index
  pub is-index : (x : List ℕ) → length x ≡ n → ((i : ℕ) → i < n → get_or x i 0 ≡ entry_of (found_in us count i))
      → x ≡ index_of n us count
  is-index x h f =
      ext_get_or 0 x (index_of n us count) (h ∙ sym index-length) (λ i m. f i (omega arith) ∙ sym (index_at i (omega arith)))

-- no entry is above the count, which is at most 16 in a condition that is well formed
pub entry-most : (us : List ℕ) (count code : ℕ) → entry_of (found_in us count code) ≤ count
unfolding limit_of
entry-most us count code = go (found_in us count code) (λ k e. found_below us count code k e)
  where
    go : (f : Option ℕ) → ((k : ℕ) → f ≡ Some k → k < limit_of us count) → entry_of f ≤ count
    go None h = omega arith
    go (Some k) h = let l : k < limit_of us count = h k refl in omega arith

-- entries built for any number of codes are as many
pub as_many : (x us : List ℕ) (n count : ℕ) → x ≡ index_of n us count → x ≡ index_of (length x) us count
as_many x us n count e = let l : length x ≡ n = ap length e ∙ index-length n us count in rw l e

-- with no user characters every entry is 0
pub index-none : (n : ℕ) (us : List ℕ) → index_of n us 0 ≡ replicate n 0
unfolding found_in limit_of
index-none n us = sym (is-index n us 0 (replicate n 0) (length-replicate n 0) (λ i h. get_or-replicate n i 0 0 h ∙ none i))
  where
    none : (i : ℕ) → 0 ≡ entry_of (found_in us 0 i)
    none i = let e : limit_of us 0 ≡ 0 = omega arith in rw e

-- a code has an entry that is not 0 exactly where a user character sits on it
pub looked-up : (f : Option ℕ) → not (eqb (entry_of f) 0) ≡ is_some f
looked-up None = refl
looked-up (Some k) = rw (ne_eqb (k + 1) 0 (λ e. omega arith))

-- Agreement ----------------------------------------------------------------------------------------------------------------

module _ (x us : List ℕ) (count : ℕ) where
  pub index-agrees : x ≡ index_of 256 us count → index_agrees x us count ≡ true
  unfolding index_agrees
  index-agrees e = rw e (same_refl (index_of 256 us count))

  pub agrees-index : index_agrees x us count ≡ true → x ≡ index_of 256 us count
  unfolding index_agrees
  agrees-index e = same-eq x (index_of 256 us count) e

  -- in the request's words: an index agrees exactly where it has 256 entries, and that of each code is its place
  pub agreement : (index_agrees x us count ≡ true)
      ↔ ((length x ≡ 256) × ((code : ℕ) → code < 256 → get_or x code 0 ≡ entry_of (found_in us count code)))
  agreement = (
    λ e. let a = agrees-index e in
        (ap length a ∙ index-length 256 us count, λ code h. ap (λ (l : List ℕ). get_or l code 0) a ∙ index_at 256 us count code h),
    λ p. index-agrees (is-index 256 us count x p.0 p.1),
  )

pub none-agrees : (us : List ℕ) → index_agrees (replicate 256 0) us 0 ≡ true
none-agrees us = index-agrees (replicate 256 0) us 0 (sym (index-none 256 us))
