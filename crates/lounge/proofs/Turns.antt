-- Pairs one after the other: the kinds, and a run, turn by turn and in pieces.
use Prim.Native.Nat.{ℕ, ◌+◌, ◌*◌, ◌<◌, ◌≤◌, ◌%◌, max}
use mathlib.Core.Path.{◌≡◌, refl, sym}
use mathlib.Core.Bool.{true, ◌&&◌, and_assoc}
use mathlib.Core.Logic.{◌⊎◌, inl, inr}
use borrow.Author.Tests.{leb-true, leb-false}
use Rattle.laws.proofs.Tests.{by_cases, most-of}
use mathlib.Core.List.{List, [], ◌∷◌, ◌++◌}
use native.Mathlib.Omega.{arith}
use lib.Dec.{leb}
use lib.ListN.{length, get_or, drop, length-drop}
use Rattle.laws.proofs.Lists.{next-two}
use Rattle.lounge.specs.declared.Lounge.{Lounge}
use Rattle.lounge.specs.Pairs.{step_of, run_of}
use Rattle.lounge.specs.Run.{kinds_formed}

-- Fewer bytes than a pair
pub kinds-few : (s : List ℕ) → length s < 2 → kinds_formed s ≡ true
unfolding kinds_formed
kinds-few [] h = refl
kinds-few (kind ∷ []) h = refl
kinds-few (kind ∷ b ∷ s) h = absurd (omega arith)

-- the largest kind of the pairs so far, with one pair more
pub kinds-turn : (s : List ℕ) (k most : ℕ) → 2 * k + 2 ≤ length s
    → (leb (max (get_or s (2 * k) 0) most) 1 && kinds_formed (drop (2 * (k + 1)) s)) ≡ (leb most 1 && kinds_formed (drop (2 * k) s))
unfolding kinds_formed
kinds-turn s k most h =
    let x = get_or s (2 * k) 0 in
    let e : 2 * (k + 1) ≡ 2 * k + 2 = omega arith in
    rw (e, next-two s (2 * k) h)
    (sym (most-of 1 most x (max x most) (kinds_formed (drop (2 * k + 2) s)) (omega arith) (omega arith) (larger x most)))
  where
    larger : (x m : ℕ) → (max x m ≡ m) ⊎ (max x m ≡ x)
    larger x m = by_cases (leb x m) (λ h. inl (omega (arith, leb-true x m h))) (λ h. inr (omega (arith, leb-false x m h)))

-- no whole pair is left
pub kinds-ended : (s : List ℕ) (k : ℕ) → length s < 2 * k + 2 → kinds_formed (drop (2 * k) s) ≡ true
kinds-ended s k h = kinds-few (drop (2 * k) s) (rw (length-drop (2 * k) s) (omega arith))

pub run-pair : (c : Lounge) (p rest s : List ℕ) → s ≡ p ++ rest → length p ≡ 2
    → run_of c s ≡ run_of (step_of c (get_or p 0 0) (get_or p 1 0)) rest
unfolding run_of
run-pair c [] rest s e l = absurd (omega arith)
run-pair c (kind ∷ []) rest s e l = absurd (omega arith)
run-pair c (kind ∷ b ∷ []) rest s e l = rw e
run-pair c (kind ∷ b ∷ x ∷ p) rest s e l = absurd (omega arith)

pub run-few : (c : Lounge) (s : List ℕ) → length s < 2 → run_of c s ≡ c
unfolding run_of
run-few c [] h = refl
run-few c (kind ∷ []) h = refl
run-few c (kind ∷ b ∷ s) h = absurd (omega arith)

-- Whole pairs, and others behind them -------------------------------------------------------------------------------------------

pub kinds-append : (xs ys : List ℕ) → length xs % 2 ≡ 0 → kinds_formed (xs ++ ys) ≡ (kinds_formed xs && kinds_formed ys)
unfolding kinds_formed
kinds-append [] ys e = refl
kinds-append (kind ∷ []) ys e = absurd (omega arith)
kinds-append (kind ∷ b ∷ xs) ys e =
    rw (kinds-append xs ys (omega arith)) (sym (and_assoc (leb kind 1) (kinds_formed xs) (kinds_formed ys)))

pub run-append : (c : Lounge) (xs ys : List ℕ) → length xs % 2 ≡ 0 → run_of c (xs ++ ys) ≡ run_of (run_of c xs) ys
unfolding run_of
run-append c [] ys e = refl
run-append c (kind ∷ []) ys e = absurd (omega arith)
run-append c (kind ∷ b ∷ xs) ys e = run-append (step_of c kind b) xs ys (omega arith)
