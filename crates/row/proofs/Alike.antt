-- Two rows are the same: as one test, and one byte after the other.
use mathlib.Core.Path.{◌≡◌, refl, ap}
use mathlib.Core.Bool.{Bool, true, false, ◌&&◌, and-true, and-false, and_assoc}
use mathlib.Core.List.{List, [], ◌∷◌}
use Prim.Native.Nat.{ℕ, suc, ◌+◌, ◌<◌, ◌≤◌}
use native.Mathlib.Numerals.{add-one}
use lib.Dec.{eqb}
use lib.ListN.{length, get_or, drop, drop_of_length-le}
use lib.Seq.{drop-cons}
use borrow.Author.Tests.{eq-eqb, eqb-true}
use Rattle.laws.proofs.Tests.{both}
use Rattle.std.specs.Cmp.Lexicographic.{pointwise}
use Rattle.row.specs.Row.{same_bytes}

pub same_refl : (l : List ℕ) → same_bytes l l ≡ true
unfolding same_bytes
same_refl [] = refl
same_refl (x ∷ xs) = rw (eq-eqb x x refl) (same_refl xs)

pub same-eq : (x y : List ℕ) → same_bytes x y ≡ true → x ≡ y
unfolding same_bytes
same-eq [] [] e = refl
same-eq [] (y ∷ ys) e = cc
same-eq (x ∷ xs) [] e = cc
same-eq (x ∷ xs) (y ∷ ys) e =
    let h = both (eqb x y) (same_bytes xs ys) e in
    let hx = eqb-true x y h.0 in
    let hxs = same-eq xs ys h.1 in
    cc

-- rows of other lengths are not
pub other_length : (x y : List ℕ) → (length x ≡ length y → ⊥) → same_bytes x y ≡ false
unfolding same_bytes
other_length [] [] h = absurd (h refl)
other_length [] (y ∷ ys) h = refl
other_length (x ∷ xs) [] h = refl
other_length (x ∷ xs) (y ∷ ys) h = rw (other_length xs ys (λ e. h (ap suc e))) (and-false (eqb x y))

-- a byte more is looked at, t being the answer of those before it
pub same_turn : (x y : List ℕ) (i : ℕ) (t : Bool) → i < length x → i < length y
    → (t && eqb (get_or x i 0) (get_or y i 0) && same_bytes (drop (i + 1) x) (drop (i + 1) y)) ≡
    (t && same_bytes (drop i x) (drop i y))
unfolding same_bytes
same_turn x y i t h l = rw (add-one i, drop-cons x i 0 h, drop-cons y i 0 l) (and_assoc t _ _)

pub same_ended : (x y : List ℕ) (i : ℕ) (t : Bool) → length x ≤ i → length y ≤ i
    → (t && same_bytes (drop i x) (drop i y)) ≡ t
unfolding same_bytes
same_ended x y i t h l = rw (drop_of_length-le x h, drop_of_length-le y l) (and-true t)

-- what `==` of two rows computes
pub pointwise-same : (x y : List ℕ) → pointwise eqb x y ≡ same_bytes x y
unfolding same_bytes
pointwise-same [] [] = refl
pointwise-same [] (y ∷ ys) = refl
pointwise-same (x ∷ xs) [] = refl
pointwise-same (x ∷ xs) (y ∷ ys) = ap (λ (t : Bool). eqb x y && t) (pointwise-same xs ys)
