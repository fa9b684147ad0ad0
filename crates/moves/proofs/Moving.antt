-- Laws of the distance.
use mathlib.Core.Path.{◌≡◌, refl, sym, ap, subst}
use mathlib.Core.Logic.{◌⊎◌, inl, inr, ⊎_elim}
use mathlib.Core.Bool.{Bool, true, false, cond}
use Prim.Native.Nat.{ℕ, zero, suc, ◌+◌, ◌-◌, ◌%◌, ◌≤◌, ◌<◌}
use native.Mathlib.Nat.{add-zero}
use native.Mathlib.Omega.{arith}
use lib.Dec.{eqb, ltb}
use lib.ListN.{length}
use borrow.Author.Tests.{eqb-true, eq-eqb, ltb-true, ltb-false, lt-ltb}
use Rattle.laws.proofs.Tests.{by_cases, clash, by-test}
use Rattle.row.proofs.Laws.{line-start-most}
use Rattle.moves.specs.Moves.{any, find, left, next, down, moves, move, near1, near2, rank, dist}
use Rattle.moves.specs.Ways.{leaves, first_byte, path_of, path}
use Rattle.moves.proofs.Members.{any_at, find_at, find-in, find_none}

-- how far one step can bring us nearer
rank_step : (e n1 n2 e' n1' n2' : Bool) → (e' ≡ true → n1 ≡ true) → (n1' ≡ true → n2 ≡ true) → rank e n1 n2 ≤ 1 + rank e' n1' n2'
rank_step true n1 n2 e' n1' n2' h1 h2 = omega arith
rank_step false true n2 e' n1' n2' h1 h2 = omega arith
rank_step false false true true n1' n2' h1 h2 = clash refl (sym (h1 refl))
rank_step false false true false true n2' h1 h2 = omega arith
rank_step false false true false false true h1 h2 = omega arith
rank_step false false true false false false h1 h2 = omega arith
rank_step false false false true n1' n2' h1 h2 = clash refl (sym (h1 refl))
rank_step false false false false true n2' h1 h2 = clash refl (sym (h2 refl))
rank_step false false false false false true h1 h2 = omega arith
rank_step false false false false false false h1 h2 = omega arith

rank_most : (e n1 n2 : Bool) → rank e n1 n2 ≤ 3
rank_most true n1 n2 = omega arith
rank_most false true n2 = omega arith
rank_most false false true = omega arith
rank_most false false false = omega arith

pub dist-step : (m a b : ℕ) → any (eqb m) moves ≡ true → dist a b ≤ 1 + dist (move m a) b
unfolding dist near1 near2
dist-step m a b h =
    rank_step (eqb a b) (near1 a b) (near2 a b) (eqb (move m a) b) (near1 (move m a) b) (near2 (move m a) b)
    (λ e. any_at (λ k. eqb (move k a) b) moves m h e)
    (λ e. any_at (λ k. near1 (move k a) b) moves m h e)

pub dist-most : (a b : ℕ) → dist a b ≤ 3
unfolding dist
dist-most a b = rank_most (eqb a b) (near1 a b) (near2 a b)

pub dist-self : (a : ℕ) → dist a a ≡ 0
unfolding dist
dist-self a = rw (eq-eqb a a refl)

rank-zero : (e n1 n2 : Bool) → rank e n1 n2 ≡ 0 → e ≡ true
rank-zero true n1 n2 h = refl
rank-zero false true n2 h = absurd (omega arith)
rank-zero false false true h = absurd (omega arith)
rank-zero false false false h = absurd (omega arith)

pub dist-zero : (a b : ℕ) → dist a b ≡ 0 → a ≡ b
unfolding dist
dist-zero a b h = eqb-true a b (rank-zero (eqb a b) (near1 a b) (near2 a b) h)

rank-one : (e n1 n2 : Bool) → rank e n1 n2 ≡ 1 → n1 ≡ true
rank-one true n1 n2 h = absurd (omega arith)
rank-one false true n2 h = refl
rank-one false false true h = absurd (omega arith)
rank-one false false false h = absurd (omega arith)

rank-two : (e n1 n2 : Bool) → rank e n1 n2 ≡ 2 → (n1 ≡ false) × (n2 ≡ true)
rank-two true n1 n2 h = absurd (omega arith)
rank-two false true n2 h = absurd (omega arith)
rank-two false false true h = (refl, refl)
rank-two false false false h = absurd (omega arith)

-- a move leaves one byte less, where less than three are left
one-first : (a b : ℕ) → near1 a b ≡ true → any (leaves 0 a b) moves ≡ true
unfolding near1 leaves dist
one-first a b h =
    let m = find (λ k. eqb (move k a) b) moves 0 in
    let e : eqb (move m a) b ≡ true = find_at (λ k. eqb (move k a) b) moves 0 h in
    any_at (leaves 0 a b) moves m (find-in (λ k. eqb (move k a) b) moves 0 h) (rw e)

dist-one : (a b : ℕ) → eqb a b ≡ false → near1 a b ≡ true → dist a b ≡ 1
unfolding dist
dist-one a b z e = rw (z, e)

two-first : (a b : ℕ) → near1 a b ≡ false → near2 a b ≡ true → any (leaves 1 a b) moves ≡ true
unfolding near2 near1 leaves
two-first a b n h =
    let m = find (λ k. near1 (move k a) b) moves 0 in
    let e : near1 (move m a) b ≡ true = find_at (λ k. near1 (move k a) b) moves 0 h in
    let i : any (eqb m) moves ≡ true = find-in (λ k. near1 (move k a) b) moves 0 h in
    any_at (leaves 1 a b) moves m i
    (by_cases (eqb (move m a) b) (λ z. clash (any_at (λ k. eqb (move k a) b) moves m i z) n)
    (λ z. eq-eqb _ _ (dist-one (move m a) b z e)))

pub first : (n a b : ℕ) → dist a b ≡ suc n → n < 2 → any (leaves n a b) moves ≡ true
unfolding dist
first zero a b h l = one-first a b (rank-one (eqb a b) (near1 a b) (near2 a b) h)
first (suc zero) a b h l =
    let r = rank-two (eqb a b) (near1 a b) (near2 a b) h in
    two-first a b r.0 r.1
first (suc (suc n)) a b h l = absurd (omega arith)

-- either the first byte is a move that leaves n bytes, or three bytes are left and it is 1Bh
pub first-byte : (n a b : ℕ) → dist a b ≡ suc n
    → ((eqb (first_byte n a b) 0x1b ≡ false) × (any (eqb (first_byte n a b)) moves ≡ true)
    × (dist (move (first_byte n a b) a) b ≡ n))
    ⊎ ((eqb (first_byte n a b) 0x1b ≡ true) × (n ≡ 2))
unfolding first_byte leaves
first-byte n a b h =
    let f = first_byte n a b in
    by_cases (any (leaves n a b) moves) (λ e. let i = find-in (leaves n a b) moves 0x1b e in
    inl (
      by_cases (eqb f 0x1b) (λ z. clash i (ap (λ (m : ℕ). any (eqb m) moves) (eqb-true f 0x1b z))) (λ z. z),
      i,
      eqb-true _ _ (find_at (leaves n a b) moves 0x1b e),
    ))
    (λ e. inr (
      eq-eqb (first_byte n a b) 0x1b (find_none (leaves n a b) moves 0x1b e),
      by_cases (ltb n 2) (λ z. clash (first n a b h (ltb-true n 2 z)) e) (λ z. omega (arith, ltb-false n 2 z, dist-most a b)),
    ))

-- where a move leads
pub next-below : (p : ℕ) → p < 40 → next p < 40
unfolding next
next-below p h = by_cases (ltb p 39) (λ e. rw e (omega (arith, ltb-true p 39 e))) (λ e. rw e (omega arith))

left_below : (p : ℕ) → p < 40 → left p < 40
unfolding left
left_below p h = by_cases (eqb (p % 20) 0) (λ e. rw e (omega arith)) (λ e. rw e (omega arith))

down-below : (p : ℕ) → p < 40 → down p < 40
unfolding down
down-below p h = by_cases (ltb p 20) (λ e. rw e (omega (arith, ltb-true p 20 e))) (λ e. rw e (omega arith))

either-below : (b : Bool) (x y : ℕ) → x < 40 → y < 40 → cond b x y < 40
either-below b x y hx hy = by-test (λ (n : ℕ). n < 40) b (λ _. hx) (λ _. hy)

pub move-below : (m p : ℕ) → p < 40 → move m p < 40
unfolding move
move-below m p h =
    either-below (eqb m 8) _ _ (left_below p h)
    (either-below (eqb m 9) _ _ (next-below p h)
    (either-below (eqb m 10) _ _ (down-below p h) (either-below (eqb m 12) _ _ (omega arith) (omega (arith, line-start-most p)))))

-- 09h leads one place on, and d of them d places, while there are any
pub next_up : (p : ℕ) → p < 39 → next p ≡ p + 1
unfolding next
next_up p h = rw (lt-ltb p 39 h)

along : (d p : ℕ) → p + d < 40 → dist p (p + d) ≤ d
unfolding next move
along zero p h = rw (add-zero p, dist-self p) (omega arith)
along (suc d) p h =
    let i : dist (next p) (p + suc d) ≤ d =
    rw (next_up p (omega arith)) (subst (λ (k : ℕ). dist (p + 1) k ≤ d) (omega arith) (along d (p + 1) (omega arith))) in
    omega (arith, dist-step 0x09 p (p + suc d) refl)

pub dist-along : (p x : ℕ) → p ≤ x → x < 40 → dist p x + p ≤ x
dist-along p x l h =
    let e : p + (x - p) ≡ x = omega arith in
    let i : dist p x ≤ x - p = subst (λ (k : ℕ). dist p k ≤ x - p) e (along (x - p) p (omega arith)) in
    omega arith

-- as many bytes as the distance
path-length : (n a b : ℕ) → dist a b ≡ n → length (path_of n a b) ≡ n
unfolding path_of
path-length zero a b h = refl
path-length (suc n) a b h =
    ⊎_elim (λ r. rw r.0 (ap suc (path-length n (move (first_byte n a b) a) b r.2)))
    (λ r. rw (r.0, r.1))
    (first-byte n a b h)

pub length-path : (a b : ℕ) → length (path a b) ≡ dist a b
unfolding path
length-path a b = path-length (dist a b) a b refl

-- what holds of each move byte
pub each-move : (P : ℕ → Type 0) → P 8 → P 9 → P 10 → P 12 → P 13 → (m : ℕ) → any (eqb m) moves ≡ true → P m
each-move P h8 h9 h10 h12 h13 m i =
    by_cases (eqb m 8) (λ e. subst P (sym (eqb-true m 8 e)) h8)
    (λ e8. by_cases (eqb m 9) (λ e. subst P (sym (eqb-true m 9 e)) h9)
    (λ e9. by_cases (eqb m 10) (λ e. subst P (sym (eqb-true m 10 e)) h10)
    (λ e10. by_cases (eqb m 12) (λ e. subst P (sym (eqb-true m 12 e)) h12)
    (λ e12. by_cases (eqb m 13) (λ e. subst P (sym (eqb-true m 13 e)) h13)
    (λ e. clash i (rw (e8, e9, e10, e12, e)))))))

pub path-most : (a b : ℕ) → length (path a b) ≤ 3
path-most a b = omega (arith, length-path a b, dist-most a b)
