-- Members of a list that pass a test.
use mathlib.Core.Path.{◌≡◌, refl, sym, ap, ◌∙◌}
use mathlib.Core.Bool.{Bool, true, false, ◌||◌, or-true}
use mathlib.Core.List.{List, [], ◌∷◌}
use Prim.Native.Nat.{ℕ}
use lib.Dec.{eqb}
use borrow.Author.Tests.{eqb-true, eq-eqb}
use Rattle.laws.proofs.Tests.{by_cases, by-test, clash}
use Rattle.moves.specs.Moves.{any, find}

-- a member that passes the test
pub any_at : (f : ℕ → Bool) (xs : List ℕ) (b : ℕ) → any (eqb b) xs ≡ true → f b ≡ true → any f xs ≡ true
any_at f [] b m h = m
any_at f (x ∷ xs) b m h =
    by_cases (eqb b x) (λ e. rw (sym (ap f (eqb-true b x e)) ∙ h))
    (λ e. rw (any_at f xs b (rw e at m) h) (or-true (f x)))

-- the first that passes the test passes it, and is a member
pub find_at : (f : ℕ → Bool) (xs : List ℕ) (d : ℕ) → any f xs ≡ true → f (find f xs d) ≡ true
find_at f [] d h = clash h refl
find_at f (x ∷ xs) d h =
    by_cases (f x) (λ e. rw e e)
    (λ e. rw e (find_at f xs d (rw e at h)))

pub find-in : (f : ℕ → Bool) (xs : List ℕ) (d : ℕ) → any f xs ≡ true → any (eqb (find f xs d)) xs ≡ true
find-in f [] d h = h
find-in f (x ∷ xs) d h =
    by-test (λ (y : ℕ). any (eqb y) (x ∷ xs) ≡ true) (f x) (λ _. ap (λ (t : Bool). t || any (eqb x) xs) (eq-eqb x x refl))
    (λ e. ap (λ (t : Bool). eqb (find f xs d) x || t) (find-in f xs d (rw e at h)) ∙ or-true (eqb (find f xs d) x))

pub find_none : (f : ℕ → Bool) (xs : List ℕ) (d : ℕ) → any f xs ≡ false → find f xs d ≡ d
find_none f [] d h = refl
find_none f (x ∷ xs) d h =
    by_cases (f x) (λ e. clash (ap (λ (t : Bool). t || any f xs) e) h)
    (λ e. rw e (find_none f xs d (rw e at h)))
