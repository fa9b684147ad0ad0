-- Tests: what one tells, alone or joined with another. (`or-true`, `and-false`, `and-not_self` and their like are in
-- mathlib.Core.Bool; what tests of numbers tell is in borrow.Author.Tests.)
use mathlib.Core.Path.{◌≡◌, refl, sym, ◌∙◌, subst}
use mathlib.Core.Logic.{◌⊎◌, ⊎_elim}
use mathlib.Core.Bool.{Bool, true, false, cond, ◌&&◌, ◌||◌, and-false}
use Prim.Native.Nat.{ℕ, suc, ◌<◌, ◌≤◌}
use native.Mathlib.Omega.{arith}
use lib.Dec.{T, eqb, leb}
use borrow.Author.Tests.{lt-ltb, le-ltb, le-leb, lt-leb, eq-eqb, ne_eqb, eqb-true, eqb-false, leb-true, leb-false}

-- what turns a test of numbers into its answer: `search tests`
pub ruleset tests = (lt-ltb, le-ltb, le-leb, lt-leb, eq-eqb, ne_eqb)

-- a test is true or false: what holds either way holds
pub by_cases {ℓ} : {P : Type ℓ} (t : Bool) → (t ≡ true → P) → (t ≡ false → P) → P
by_cases true f g = f refl
by_cases false f g = g refl

-- and not both
pub clash : {A : Type 0} {b : Bool} → b ≡ true → b ≡ false → A
clash p q = absurd (subst T (sym p ∙ q) tt)

-- both parts of an `and` hold, neither part of an `or`
pub both : (a b : Bool) → (a && b) ≡ true → (a ≡ true) × (b ≡ true)
both true b e = (refl, e)
both false b e = (e, clash e refl)

pub neither : (a b : Bool) → (a || b) ≡ false → (a ≡ false) × (b ≡ false)
neither true b e = clash refl e
neither false b e = (refl, e)

-- the second part of an `and` counts only where the first holds
pub and_same : (t : Bool) {x y : Bool} → (t ≡ true → x ≡ y) → (t && x) ≡ (t && y)
and_same true f = f refl
and_same false f = refl

-- a property of either way is one of the choice, with the test known
pub by-test {ℓ ℓ'} : {A : Type ℓ} (P : A → Type ℓ') (t : Bool) {a b : A} → (t ≡ true → P a) → (t ≡ false → P b) → P (cond t a b)
by-test P true f g = f refl
by-test P false f g = g refl

-- a refusal that is not given, and what comes after it
pub passed : (t : Bool) (n r : ℕ) → cond t (suc n) r ≡ 0 → (t ≡ false) × (r ≡ 0)
passed true n r e = absurd (omega arith)
passed false n r e = (refl, e)

-- an answer by its refusal number has that number
pub number_by : {A : Type 0} (number : A → ℕ) (n : ℕ) {a b : A} → number a ≡ 0 → number b ≡ n → number (cond (eqb n 0) a b) ≡ n
number_by {A} number n ea eb =
    by-test (λ (x : A). number x ≡ n) (eqb n 0) (λ t. ea ∙ sym (eqb-true n 0 t)) (λ _. eb)

-- two numbers are equal or they are not
pub by_equal : {P : Type 0} (i k : ℕ) → (i ≡ k → P) → ((i ≡ k → ⊥) → P) → P
by_equal i k f g = by_cases (eqb i k) (λ e. f (eqb-true i k e)) (λ e. g (eqb-false i k e))

-- of two numbers m and x the larger, k, is at most n where both are
pub most-of : (n m x k : ℕ) (rest : Bool) → m ≤ k → x ≤ k → (k ≡ m) ⊎ (k ≡ x) → (leb m n && (leb x n && rest)) ≡ (leb k n && rest)
most-of n m x k rest hm hx hk = go (leb k n) refl
  where
    go : (t : Bool) → leb k n ≡ t → (leb m n && (leb x n && rest)) ≡ (t && rest)
    go true e =
        let l : k ≤ n = leb-true k n e in
        let a : m ≤ n = omega arith in
        let b : x ≤ n = omega arith in
        rw (le-leb m n a, le-leb x n b)
    go false e =
        let l : n < k = omega (arith, leb-false k n e) in
        ⊎_elim (λ (f : k ≡ m). let a : n < m = omega arith in rw (lt-leb m n a))
        (λ (f : k ≡ x). let a : n < x = omega arith in rw (lt-leb x n a) (and-false (leb m n))) hk
