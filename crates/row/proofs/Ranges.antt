-- Every element is at most n: by places, and what keeps it.
use mathlib.Core.Path.{◌≡◌, refl, sym, ◌∙◌}
use mathlib.Core.Bool.{true, ◌&&◌, and-true}
use mathlib.Core.Logic.{◌⊎◌, inl, inr}
use mathlib.Core.List.{List, [], ◌∷◌, ◌++◌, map}
use Prim.Native.Nat.{ℕ, zero, suc, ◌+◌, ◌≤◌, max}
use native.Mathlib.Omega.{arith}
use lib.Dec.{leb}
use lib.ListN.{length, get_or, set, take, drop, replicate}
use borrow.Author.Tests.{leb-true, leb-false, le-leb}
use Rattle.std.specs.List.{fold}
use Rattle.laws.proofs.Tests.{both, by_cases, most-of}
use Rattle.row.specs.Row.{all_up_to, scrolled, shifted, cleared_line}

-- every element is at most n
pub up-to-at : (n : ℕ) (l : List ℕ) → all_up_to n l ≡ true → (i : ℕ) → get_or l i 0 ≤ n
unfolding all_up_to
up-to-at n [] e i = omega arith
up-to-at n (x ∷ l) e zero = leb-true x n (both (leb x n) (all_up_to n l) e).0
up-to-at n (x ∷ l) e (suc i) = up-to-at n l (both (leb x n) (all_up_to n l) e).1 i

pub at-up-to : (n : ℕ) (l : List ℕ) → ((i : ℕ) → get_or l i 0 ≤ n) → all_up_to n l ≡ true
unfolding all_up_to
at-up-to n [] h = refl
at-up-to n (x ∷ l) h = rw (le-leb x n (h 0)) (at-up-to n l (λ i. h (suc i)))

-- at most 0 is 0
pub all-zero : (l : List ℕ) → all_up_to 0 l ≡ true → l ≡ replicate (length l) 0
unfolding all_up_to
all-zero [] e = refl
all-zero (x ∷ xs) e =
    let h = both (leb x 0) (all_up_to 0 xs) e in
    let z : x ≡ 0 = omega (arith, leb-true x 0 h.0) in
    rw (z, ← all-zero xs h.1)

pub up-to-set : (n : ℕ) (l : List ℕ) (i x : ℕ) → all_up_to n l ≡ true → x ≤ n → all_up_to n (set l i x) ≡ true
unfolding all_up_to
up-to-set n [] i x h e = refl
up-to-set n (y ∷ l) zero x h e = rw (le-leb x n e) (both (leb y n) (all_up_to n l) h).1
up-to-set n (y ∷ l) (suc i) x h e = rw (both (leb y n) (all_up_to n l) h).0
    (up-to-set n l i x (both (leb y n) (all_up_to n l) h).1 e)

pub up-to-append : (n : ℕ) (a b : List ℕ) → all_up_to n a ≡ true → all_up_to n b ≡ true → all_up_to n (a ++ b) ≡ true
unfolding all_up_to
up-to-append n [] b h e = e
up-to-append n (y ∷ a) b h e = rw (both (leb y n) (all_up_to n a) h).0 (up-to-append n a b (both (leb y n) (all_up_to n a) h).1 e)

pub up-to-cons : (n x : ℕ) (l : List ℕ) → x ≤ n → all_up_to n l ≡ true → all_up_to n (x ∷ l) ≡ true
unfolding all_up_to
up-to-cons n x l h e = rw (le-leb x n h) e

pub up-to-take : (n k : ℕ) (l : List ℕ) → all_up_to n l ≡ true → all_up_to n (take k l) ≡ true
unfolding all_up_to
up-to-take n zero l h = refl
up-to-take n (suc k) [] h = refl
up-to-take n (suc k) (y ∷ l) h = rw (both (leb y n) (all_up_to n l) h).0 (up-to-take n k l (both (leb y n) (all_up_to n l) h).1)

pub up-to-drop : (n k : ℕ) (l : List ℕ) → all_up_to n l ≡ true → all_up_to n (drop k l) ≡ true
unfolding all_up_to
up-to-drop n zero l h = h
up-to-drop n (suc k) [] h = refl
up-to-drop n (suc k) (y ∷ l) h = up-to-drop n k l (both (leb y n) (all_up_to n l) h).1

pub up-to-replicate : (n k x : ℕ) → x ≤ n → all_up_to n (replicate k x) ≡ true
unfolding all_up_to
up-to-replicate n zero x h = refl
up-to-replicate n (suc k) x h = rw (le-leb x n h) (up-to-replicate n k x h)

-- each element changed by a rule that keeps it so
pub map-up-to : (n : ℕ) (f : ℕ → ℕ) → ((x : ℕ) → x ≤ n → f x ≤ n) → (l : List ℕ) → all_up_to n l ≡ true
    → all_up_to n (map f l) ≡ true
unfolding all_up_to
map-up-to n f h [] e = refl
map-up-to n f h (x ∷ l) e =
    let p = both (leb x n) (all_up_to n l) e in
    rw (le-leb (f x) n (h x (leb-true x n p.0))) (map-up-to n f h l p.1)

-- Rows that are moved or cleared stay so ---------------------------------------------------------------------------------------

module _ (n v : ℕ) (a : List ℕ) (h : v ≤ n) (e : all_up_to n a ≡ true) where
  pub scrolled-up-to : all_up_to n (scrolled v a) ≡ true
  unfolding scrolled
  scrolled-up-to = up-to-append n (drop 20 a) (replicate 20 v) (up-to-drop n 20 a e) (up-to-replicate n 20 v h)

  pub shifted-up-to : (start : ℕ) → all_up_to n (shifted start v a) ≡ true
  unfolding shifted
  shifted-up-to start =
      up-to-append n (take start a ++ take 19 (drop (start + 1) a)) (v ∷ drop (start + 20) a)
      (up-to-append n (take start a) (take 19 (drop (start + 1) a)) (up-to-take n start a e)
      (up-to-take n 19 (drop (start + 1) a) (up-to-drop n (start + 1) a e)))
      (up-to-cons n v (drop (start + 20) a) h (up-to-drop n (start + 20) a e))

  pub cleared-up-to : (start : ℕ) → all_up_to n (cleared_line start v a) ≡ true
  unfolding cleared_line
  cleared-up-to start =
      up-to-append n (take start a) (replicate 20 v ++ drop (start + 20) a) (up-to-take n start a e)
      (up-to-append n (replicate 20 v) (drop (start + 20) a) (up-to-replicate n 20 v h) (up-to-drop n (start + 20) a e))

-- and the largest of them is
pub fold-max : (n m : ℕ) (l : List ℕ) → leb (fold max m l) n ≡ (leb m n && all_up_to n l)
unfolding all_up_to
fold-max n m [] = sym (and-true (leb m n))
fold-max n m (x ∷ l) =
    fold-max n (max m x) l ∙ sym (most-of n m x (max m x) (all_up_to n l) (omega arith) (omega arith) (larger m x))
  where
    larger : (m x : ℕ) → (max m x ≡ m) ⊎ (max m x ≡ x)
    larger m x = by_cases (leb x m) (λ h. inl (omega (arith, leb-true x m h))) (λ h. inr (omega (arith, leb-false x m h)))
