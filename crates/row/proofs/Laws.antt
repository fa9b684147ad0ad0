-- What a pull, a fill and a copy make of the places, turn by turn and in the end; what is laid over a row; and sizes.
use Prim.Native.Nat.{ℕ, suc, ◌+◌, ◌-◌, ◌≤◌, ◌<◌, min}
use native.Mathlib.Nat.{zero-min, min-zero, suc-min-suc}
use mathlib.Core.Path.{◌≡◌, ap, ◌∙◌}
use mathlib.Core.List.{List, [], ◌∷◌, ◌++◌, append-nil}
use native.Mathlib.Omega.{arith}
use lib.ListN.{length, take, drop, set, replicate, length-append, length-take, length-drop, length-replicate}
use lib.ListN.{drop_of_length-le}
use lib.Seq.{paste, take_all, drop-cons, set_at, length_paste_head, length-paste, take-paste}
use lib.Seq.{take-nil, drop-nil, drop-drop, drop-length}
use borrow.Rule.Slice.PartMut.{put_mid, mid_of}
use lib.Dec.{leb, ltb}
use borrow.Author.Tests.{leb-true, leb-false, eq-eqb}
use Rattle.laws.proofs.Tests.{by_cases, by-test}
use Rattle.laws.proofs.Lists.{part_length}
use Rattle.row.specs.Row.{line_start, scrolled, shifted, cleared_line, on_picture, advanced, laid}

-- Whole rows ------------------------------------------------------------------------------------------------------------------

-- on a picture a rule for pictures holds
pub on-picture : (f : List ℕ → List ℕ) (a : List ℕ) → length a ≡ 40 → on_picture f a ≡ f a
unfolding on_picture
on-picture f a h = rw (eq-eqb (length a) 40 h)

pub scroll-law : (a x : List ℕ) (v : ℕ) → length a ≡ 40 → x ≡ paste a 0 (drop 20 a) (length a - 20)
    → put_mid 20 (length x - 20) x (replicate (length (mid_of 20 (length x - 20) x)) v) ≡ scrolled v a
unfolding scrolled
scroll-law a x v h e =
    let n : length a - 20 ≡ 20 = omega arith in
    let p : x ≡ paste a 0 (drop 20 a) 20 = rw n at e in
    let m : 20 ≤ length (drop 20 a) = simp length-drop (omega arith) in
    let k : length (drop 20 a) ≤ 20 = simp length-drop (omega arith) in
    let l : length x ≡ 40 = rw p (length-paste a 0 (drop 20 a) 20 (omega arith) m ∙ h) in
    let t : take 20 x ≡ drop 20 a = rw p (take-paste a 0 (drop 20 a) 20 (omega arith) m ∙ take_all 20 (drop 20 a) k) in
    let n' : length x - 20 ≡ 20 = omega arith in
    let r : length (take 20 (drop 20 x)) ≡ 20 = simp (length-take, length-drop) (omega arith) in
    let d : length (drop 20 x) ≤ 20 = simp length-drop (omega arith) in
    let z : drop 20 (drop 20 x) ≡ [] = drop_of_length-le (drop 20 x) d in
    rw (n', t, r, z) (ap (λ (y : List ℕ). drop 20 a ++ y) (append-nil (replicate 20 v)))

pub shift-law : (a : List ℕ) (start v : ℕ) → length a ≡ 40 → start ≤ 20
    → set (paste a start (drop (start + 1) a) (start + 20 - (start + 1))) (start + 19) v ≡ shifted start v a
unfolding shifted
shift-law a start v h k =
    let l : start + 19 < length a = omega arith in
    let n : 19 ≤ length (drop (start + 1) a) = simp length-drop (omega arith) in
    let e : suc (start + 19) ≡ start + 20 = omega arith in
    let o : start + 20 - (start + 1) ≡ 19 = omega arith in
    let head : List ℕ = take start a ++ take 19 (drop (start + 1) a) in
    let m : length head ≡ start + 19 = length_paste_head a start (drop (start + 1) a) 19 (omega arith) n in
    rw (o, drop-cons a (start + 19) 0 l, e) (set_at head _ _ v (start + 19) m)

pub clear-line-law : (a x : List ℕ) (start v : ℕ) → length a ≡ 40 → start ≤ 20
    → x ≡ replicate (length (mid_of start (start + 20 - start) a)) v
    → put_mid start (start + 20 - start) a x ≡ cleared_line start v a
unfolding cleared_line
clear-line-law a x start v h k e =
    let n : start + 20 - start ≡ 20 = omega arith in
    rw (e, n, part_length start 20 a (omega arith), drop-drop 20 start a)

pub advance-law : (a : List ℕ) (by : ℕ) → by ≤ length a → paste a 0 (drop by a) (length a - by) ≡ advanced by a
unfolding advanced
advance-law a by h =
    let l : length (drop by a) ≤ length a - by = simp length-drop (omega arith) in
    let m : 0 + (length a - by) ≡ length a - by = omega arith in
    rw (take_all (length a - by) (drop by a) l, m)

-- fewer places than `by`: nothing moves
pub advance-short : (a : List ℕ) (by : ℕ) → length a < by → a ≡ advanced by a
unfolding advanced
advance-short a by h =
    let l : length a ≤ by = omega arith in
    let z : length a - by ≡ 0 = omega arith in
    rw (drop_of_length-le a l, z)

-- Laid over the start of a row --------------------------------------------------------------------------------------------------

pub laid-law : (d s : List ℕ) (n : ℕ) → n ≡ min (length d) (length s) → take n s ++ drop n d ≡ laid s d
unfolding laid
laid-law d s n e =
    by_cases (leb (length d) (length s))
    (λ h. let l : length d ≤ length s = leb-true (length d) (length s) h in
    let k : n ≡ length d = omega arith in
    rw (k, drop-length d, drop_of_length-le d l))
    (λ h. let l : length s ≤ length d = omega (arith, leb-false (length d) (length s) h) in
    let k : n ≡ length s = omega arith in
    rw (k, take_all (length d) s l, take_all (length s) s (omega arith)))

-- as many bytes as there is room for
pub filled : (q d : List ℕ) (n : ℕ) → length q ≡ n → length d ≡ n → laid q d ≡ q
unfolding laid
filled q d n hq hd =
    let a : length q ≤ length d = omega arith in
    let b : length d ≤ length q = omega arith in
    rw (take_all (length d) q a, drop_of_length-le d b) (append-nil q)

-- over no place nothing is laid, and of nothing no place changes
pub laid_none : (x : List ℕ) → laid x [] ≡ []
unfolding laid
laid_none x = drop-nil (length x)

pub laid-empty : (s : List ℕ) → laid [] s ≡ s
unfolding laid
laid-empty s = rw (take-nil {A = ℕ} (length s))

-- x over the start of a row, and then y after it
pub laid_both : (x y s : List ℕ)
    → take (min (length x) (length s)) (laid x s) ++ laid y (drop (min (length x) (length s)) (laid x s)) ≡ laid (x ++ y) s
unfolding laid
laid_both [] y s = rw (zero-min (length s), take-nil {A = ℕ} (length s))
laid_both (b ∷ x) y [] = rw (min-zero (suc (length x)), drop-nil {A = ℕ} (length y))
laid_both (b ∷ x) y (z ∷ s) = rw (suc-min-suc (length x) (length s)) (ap (λ (l : List ℕ). b ∷ l) (laid_both x y s))

-- Sizes --------------------------------------------------------------------------------------------------------------------------

pub line-start-most : (at : ℕ) → line_start at ≤ 20
unfolding line_start
line-start-most at = by-test (λ (n : ℕ). n ≤ 20) (ltb at 20) (λ _. omega arith) (λ _. omega arith)

pub scrolled-40 : (v : ℕ) (a : List ℕ) → length a ≡ 40 → length (scrolled v a) ≡ 40
unfolding scrolled
scrolled-40 v a h = simp (length-append, length-drop, length-replicate) (omega arith)

pub shifted-40 : (start v : ℕ) (a : List ℕ) → start ≤ 20 → length a ≡ 40 → length (shifted start v a) ≡ 40
unfolding shifted
shifted-40 start v a l h = simp (length-append, length-take, length-drop) (omega arith)

pub cleared-40 : (start v : ℕ) (a : List ℕ) → start ≤ 20 → length a ≡ 40 → length (cleared_line start v a) ≡ 40
unfolding cleared_line
cleared-40 start v a l h = simp (length-append, length-take, length-drop) (omega arith)

pub advanced-length : (by : ℕ) (a : List ℕ) → by ≤ length a → length (advanced by a) ≡ length a
unfolding advanced
advanced-length by a h = simp (length-append, length-drop) (omega arith)
