-- The lengths of a block's parts, what the check weighs, and the block put over a buffer.
use Prim.Native.Nat.{ℕ, zero, suc, ◌+◌, ◌*◌, ◌/◌, ◌%◌, ◌-◌, ◌≤◌, ◌<◌}
use mathlib.Core.Path.{◌≡◌, refl, ap, sym, ◌∙◌}
use mathlib.Core.Bool.{Bool, true, false, cond, ◌&&◌, and-true}
use mathlib.Core.List.{List, [], ◌∷◌, ◌++◌, append-nil}
use native.Mathlib.Omega.{arith}
use lib.ListN.{length, get_or, take, drop, replicate, length-append, length-drop, drop_of_length-le}
use lib.Seq.{drop-drop, take_at, take_all, take-add}
use borrow.Author.Tests.{lt-ltb, le-ltb}
use Rattle.condition.specs.declared.Condition.{Condition}
use Rattle.row.specs.Row.{all_up_to}
use Rattle.row.proofs.Ranges.{all-zero}
use Rattle.layout.specs.Layout.{packed_of}
use Rattle.block.specs.Block.{weigh, check_of, body_of, seal_of, block_of, put_over}
use Rattle.block.specs.Tidy.{rest_zero}
use Rattle.condition.proofs.Good.{Sized}
use Rattle.laws.proofs.Lists.{part_length, bytewise}
use Rattle.layout.proofs.PackedBack.{length-packed}
use Rattle.layout.proofs.Parts.{behind}
use borrow.Rule.Slice.PartMut.{put_mid, mid_of}
use borrow.Author.Rules.{rules}
use mir.Syntax.{w16}
use Rattle.std.specs.Int.{to_le_bytes}
use Rattle.std.specs.Cmp.Lexicographic.{pointwise}
use lib.Dec.{eqb}

pub length-body : (c : Condition) → Sized c → length (body_of c) ≡ 510
unfolding body_of
length-body c z = length-append (packed_of c) (replicate 310 0) ∙ ap (λ (n : ℕ). n + 310) (length-packed c z)

pub length-block : (c : Condition) → Sized c → length (block_of c) ≡ 512
unfolding block_of seal_of
length-block c z = length-append (body_of c) _ ∙ ap (λ (n : ℕ). n + 2) (length-body c z)

-- the check is over the first 510 bytes, and below 65,521
pub check-short : (b : List ℕ) (n : ℕ) → length b < 510 → n ≡ weigh 1 b → n % 65521 ≡ check_of b
unfolding check_of
check-short b n h e = rw (take_all 510 b (omega arith), e)

pub check-below : (b : List ℕ) → check_of b < 65521
unfolding check_of
check-below b = omega arith

-- zeros behind weigh nothing
weigh-zeros : (k n : ℕ) → weigh n (replicate k 0) ≡ 0
unfolding weigh
weigh-zeros zero n = refl
weigh-zeros (suc k) n = omega (arith, weigh-zeros k (n + 1))

weigh-over : (p : List ℕ) (n k : ℕ) → weigh n (p ++ replicate k 0) ≡ weigh n p
unfolding weigh
weigh-over [] n k = weigh-zeros k n
weigh-over (x ∷ p) n k = ap (λ (m : ℕ). n * x + m) (weigh-over p (n + 1) k)

-- n unused bytes from `at` on
pub unused : (n at : ℕ) (b : List ℕ) → at + n ≤ length b → all_up_to 0 (take n (drop at b)) ≡ true
    → take n (drop at b) ≡ replicate n 0
unused n at b h e =
    all-zero (take n (drop at b)) e ∙ ap (λ (k : ℕ). replicate k 0) (part_length at n b h)

-- so where the unused bytes are 0 the first 200 weigh all
pub check-weighty : (b : List ℕ) (t : Bool) (k n : ℕ) → 510 ≤ length b → t ≡ rest_zero b → k ≡ cond t 200 510
    → n ≡ weigh 1 (take k b) → n % 65521 ≡ check_of b
unfolding check_of
check-weighty b true k n h z ek en =
    let f : take 510 b ≡ take 200 b ++ replicate 310 0 =
    take-add 200 310 b ∙ ap (λ (l : List ℕ). take 200 b ++ l) (unused 310 200 b (omega arith) (sym z)) in
    rw (f, weigh-over (take 200 b) 1 310, en, ek)
check-weighty b false k n h z ek en = rw (en, ek)

pub check-body : (b e : List ℕ) → length b ≡ 510 → check_of (b ++ e) ≡ check_of b
unfolding check_of
check-body b e h = rw (take_at b e 510 h, take_all 510 b (omega arith))

-- Bytes 0 to 2 and the check, as rows ---------------------------------------------------------------------------------------

eqb-swap : (m n : ℕ) → eqb m n ≡ eqb n m
eqb-swap m n = search rules

first-three : (b : List ℕ) (x y z : ℕ) → length b ≡ 512
    → pointwise eqb (x ∷ y ∷ z ∷ []) (take 3 b) ≡ (eqb (get_or b 0 0) x && (eqb (get_or b 1 0) y && (eqb (get_or b 2 0) z && true)))
first-three b x y z h =
    let e : take 3 b ≡ get_or b 0 0 ∷ get_or b 1 0 ∷ get_or b 2 0 ∷ [] = ap (take 3) (bytewise 3 0 b (omega arith)) in
    rw (e, eqb-swap x (get_or b 0 0), eqb-swap y (get_or b 1 0), eqb-swap z (get_or b 2 0))

-- the check as two bytes, the low one first
pub check-bytes : (n : ℕ) → n < 65536 → to_le_bytes w16 n ≡ n % 256 ∷ n / 256 ∷ []
check-bytes n h =
    let e : n / 256 % 256 ≡ n / 256 = omega arith in
    ap (λ (k : ℕ). n % 256 ∷ k ∷ []) e

last-two : (b : List ℕ) (x y : ℕ) → length b ≡ 512
    → pointwise eqb (x ∷ y ∷ []) (drop (length b - 2) b) ≡ (eqb (get_or b 510 0) x && (eqb (get_or b 511 0) y && true))
last-two b x y h =
    let n : length b - 2 ≡ 510 = omega arith in
    let l : length b ≤ 512 = omega arith in
    let e : drop 510 b ≡ get_or b 510 0 ∷ get_or b 511 0 ∷ [] = bytewise 2 510 b (omega arith) ∙ rw (drop_of_length-le b l) refl in
    rw (n, e, eqb-swap x (get_or b 510 0), eqb-swap y (get_or b 511 0))

regroup : (p q r s t : Bool) → ((p && (q && (r && true))) && (s && (t && true))) ≡ (p && q && r && s && t)
regroup false q r s t = refl
regroup true false r s t = refl
regroup true true false s t = refl
regroup true true true false t = refl
regroup true true true true t = and-true t

pub same-ends : (b : List ℕ) (x y z v w : ℕ) → length b ≡ 512
    → (pointwise eqb (x ∷ y ∷ z ∷ []) (take 3 b) && pointwise eqb (v ∷ w ∷ []) (drop (length b - 2) b))
    ≡ (eqb (get_or b 0 0) x && eqb (get_or b 1 0) y && eqb (get_or b 2 0) z && eqb (get_or b 510 0) v && eqb (get_or b 511 0) w)
same-ends b x y z v w h =
    rw (first-three b x y z h, last-two b v w h)
    (regroup (eqb (get_or b 0 0) x) (eqb (get_or b 1 0) y) (eqb (get_or b 2 0) z) (eqb (get_or b 510 0) v) (eqb (get_or b 511 0) w))

-- A block over the start of a buffer ---------------------------------------------------------------------------------------

pub put-short : (c : Condition) (out : List ℕ) → length out < 512 → out ≡ put_over c out
unfolding put_over
put-short c out h = rw (lt-ltb (length out) 512 h)

pub put-room : (c : Condition) (out : List ℕ) → 512 ≤ length out → put_over c out ≡ block_of c ++ drop 512 out
unfolding put_over
put-room c out h = rw (le-ltb (length out) 512 h)

-- all of a buffer of 512 bytes
pub put_whole : (c : Condition) (out : List ℕ) → length out ≡ 512 → put_over c out ≡ block_of c
put_whole c out h =
    let le : length out ≤ 512 = omega arith in
    put-room c out (omega arith) ∙ rw (drop_of_length-le out le, append-nil (block_of c))

-- the packed condition is copied there, the bytes behind it are cleared, and the check is put behind these
pub put-block : (c : Condition) → Sized c → (out zeros check : List ℕ) (w : ℕ) → 512 ≤ length out
    → w ≡ weigh 1 (packed_of c) % 65521 → zeros ≡ replicate (length (mid_of 200 310 (packed_of c ++ drop 200 out))) 0
    → check ≡ w % 256 ∷ w / 256 ∷ []
    → put_mid 510 2 (put_mid 200 310 (packed_of c ++ drop 200 out) zeros) check ≡ put_over c out
unfolding check_of body_of seal_of block_of
put-block c z out zeros check w h ew ez ek =
    let p : List ℕ = packed_of c in
    let n : length p ≡ 200 = length-packed c z in
    let m : length (mid_of 200 310 (p ++ drop 200 out)) ≡ 310 =
    part_length 200 310 (p ++ drop 200 out) (simp (length-append, length-drop) (omega arith)) in
    let b : take 510 (body_of c) ≡ body_of c = take_all 510 (body_of c) (omega (arith, length-body c z)) in
    let k : w ≡ check_of (body_of c) = rw (b, weigh-over p 1 310) ew in
    let f : put_mid 200 310 (p ++ drop 200 out) zeros ≡ body_of c ++ drop 310 (drop 200 out) =
    rw (ez, m) (behind (p ++ drop 200 out) p (drop 200 out) (replicate 310 0) 200 310 refl n) in
    behind (put_mid 200 310 (p ++ drop 200 out) zeros) (body_of c) (drop 310 (drop 200 out)) check 510 2 f (length-body c z)
    ∙ rw (ek, k, drop-drop 310 200 out, drop-drop 2 510 out) (sym (put-room c out h))
