-- The path is the shortest of all move strings between two places, and of equals the smallest by first differing byte.
use mathlib.Core.Path.{◌≡◌, refl, sym, ap, ◌∙◌}
use mathlib.Core.Logic.{⊎_elim}
use mathlib.Core.Bool.{Bool, true, ◌&&◌, ◌||◌, or-true}
use mathlib.Core.List.{List, [], ◌∷◌}
use Prim.Native.Nat.{ℕ, zero, suc, ◌+◌, ◌≤◌, ◌<◌}
use native.Mathlib.Omega.{arith}
use lib.Dec.{eqb, ltb, leb}
use lib.ListN.{length}
use borrow.Author.Tests.{eqb-true, eqb-false, eq-eqb, leb-true, le-leb, lt-ltb}
use Rattle.laws.proofs.Tests.{by_cases, clash, both}
use Rattle.moves.specs.Moves.{any, find, moves, move, dist}
use Rattle.moves.specs.Ways.{leaves, first_byte, path_of, path, Jump, none, escape, place, leads_to, at_most, Shortest}
use Rattle.moves.proofs.Moving.{dist-step, dist-most, dist-self, dist-zero, first-byte, each-move, length-path}

abbrev sent : Jump → ℕ
sent none = 0
sent escape = 1
sent place = 2

-- no move string is shorter than the distance
move-fewest : (bs : List ℕ) (k : Jump) (a b : ℕ) → leads_to k a b bs ≡ true → dist a b ≤ sent k + length bs
unfolding leads_to
move-fewest [] none a b h = rw (eqb-true a b h, dist-self b) (omega arith)
move-fewest [] escape a b h = clash h refl
move-fewest [] place a b h = clash h refl
move-fewest (x ∷ xs) none a b h =
    by_cases (eqb x 0x1b) (λ e. omega (arith, move-fewest xs escape a b (rw e at h)))
    (λ e. let o = both (any (eqb x) moves) _ (rw e at h) in
    omega (arith, dist-step x a b o.0, move-fewest xs none (move x a) b o.1))
move-fewest (x ∷ xs) escape a b h = omega (arith, move-fewest xs place a b (both (eqb x 0x48) _ h).1)
move-fewest (x ∷ xs) place a b h = omega (arith, dist-most a b)

-- the first that passes a test, in a rising list, is the least
abbrev over : ℕ → List ℕ → Bool
over y [] = true
over y (z ∷ zs) = leb y z && over y zs

abbrev rising : List ℕ → Bool
rising [] = true
rising (y ∷ ys) = over y ys && rising ys

over-at : (y x : ℕ) (xs : List ℕ) → over y xs ≡ true → any (eqb x) xs ≡ true → y ≤ x
over-at y x [] o m = clash m refl
over-at y x (z ∷ zs) o m =
    by_cases (eqb x z) (λ e. omega (arith, eqb-true x z e, leb-true y z (both (leb y z) _ o).0))
    (λ e. over-at y x zs (both (leb y z) _ o).1 (rw e at m))

find-least : (f : ℕ → Bool) (xs : List ℕ) (d x : ℕ) → rising xs ≡ true → any (eqb x) xs ≡ true → f x ≡ true → find f xs d ≤ x
find-least f [] d x r m h = clash m refl
find-least f (y ∷ ys) d x r m h =
    let o = both (over y ys) _ r in
    by_cases (f y) (λ e. rw e
    (by_cases (eqb x y) (λ z. omega (arith, eqb-true x y z)) (λ z. over-at y x ys o.0 (rw z at m))))
    (λ e. rw e
    (by_cases (eqb x y) (λ z. clash h (ap f (eqb-true x y z) ∙ e))
    (λ z. find-least f ys d x o.1 (rw z at m) h)))

below-esc : (m : ℕ) → any (eqb m) moves ≡ true → m < 0x1b
below-esc = each-move (λ m. m < 0x1b) (omega arith) (omega arith) (omega arith) (omega arith) (omega arith)

less-head : (x y : ℕ) (xs ys : List ℕ) → x < y → at_most (x ∷ xs) (y ∷ ys) ≡ true
less-head x y xs ys h = rw (lt-ltb x y h)

same_head : (x y : ℕ) (xs ys : List ℕ) → x ≡ y → at_most xs ys ≡ true → at_most (x ∷ xs) (y ∷ ys) ≡ true
same_head x y xs ys e h =
    ap (λ (t : Bool). ltb x y || t) (ap (λ (t : Bool). t && at_most xs ys) (eq-eqb x y e) ∙ h) ∙ or-true (ltb x y)

-- 1Bh 48h b is the only string of three bytes that starts with 1Bh
only-jump : (a b x : ℕ) (xs : List ℕ) → x ≡ 0x1b → length xs ≡ 2 → leads_to escape a b xs ≡ true
    → at_most (0x1b ∷ 0x48 ∷ b ∷ []) (x ∷ xs) ≡ true
unfolding leads_to
only-jump a b x [] e l h = absurd (omega arith)
only-jump a b x (y ∷ []) e l h = absurd (omega arith)
only-jump a b x (y ∷ z ∷ []) e l h =
    let o = both (eqb y 0x48) _ h in
    same_head 0x1b x (0x48 ∷ b ∷ []) (y ∷ z ∷ []) (sym e)
    (same_head 0x48 y (b ∷ []) (z ∷ []) (sym (eqb-true y 0x48 o.0))
    (same_head b z [] [] (sym (eqb-true z b (both (leb z 0x27) _ o.1).1)) refl))
only-jump a b x (y ∷ z ∷ w ∷ ws) e l h = absurd (omega arith)

leaves_at : (n a b x : ℕ) → dist (move x a) b ≡ n → leaves n a b x ≡ true
unfolding leaves
leaves_at n a b x c = eq-eqb _ _ c

smallest : (n a b : ℕ) (bs : List ℕ) → dist a b ≡ n → leads_to none a b bs ≡ true → length bs ≡ n
    → at_most (path_of n a b) bs ≡ true
unfolding path_of leads_to first_byte
smallest zero a b bs d h l = refl
smallest (suc n) a b [] d h l = absurd (omega arith)
smallest (suc n) a b (x ∷ xs) d h l =
    let f = first_byte n a b in
    let on = path_of n (move f a) b in
    by_cases (eqb x 0x1b)
    (λ e. ⊎_elim
    (λ r. rw r.0 (less-head f x on xs (omega (arith, eqb-true x 0x1b e, below-esc f r.1))))
    (λ r. rw r.0 (only-jump a b x xs (eqb-true x 0x1b e) (omega (arith, r.1)) (rw e at h)))
    (first-byte n a b d))
    (λ e.
    let o = rw e at h in
    let i : any (eqb x) moves ≡ true = (both (any (eqb x) moves) _ o).0 in
    let t : leads_to none (move x a) b xs ≡ true = (both (any (eqb x) moves) _ o).1 in
    let c : dist (move x a) b ≡ n = omega (arith, dist-step x a b i, move-fewest xs none (move x a) b t) in
    let v : f ≤ x = find-least (leaves n a b) moves 0x1b x refl i (leaves_at n a b x c) in
    ⊎_elim
    (λ r. rw r.0 (by_cases (eqb f x)
    (λ z. let g = eqb-true f x z in
    same_head f x on xs g (rw g (smallest n (move x a) b xs c t (omega arith))))
    (λ z. less-head f x on xs (omega (arith, eqb-false f x z)))))
    (λ r. absurd (omega (arith, below-esc x i, eqb-true f 0x1b r.0)))
    (first-byte n a b d))

-- the path is a move string that leads there
path-leads : (n a b : ℕ) → dist a b ≡ n → b < 40 → leads_to none a b (path_of n a b) ≡ true
unfolding path_of leads_to
path-leads zero a b e h = eq-eqb a b (dist-zero a b e)
path-leads (suc n) a b e h =
    ⊎_elim (λ r. rw (r.0, r.0, r.1) (path-leads n (move (first_byte n a b) a) b r.2 h))
    (λ r. rw (r.0, le-leb b 0x27 (omega arith), eq-eqb b b refl))
    (first-byte n a b e)

pub shortest : (a b : ℕ) → b < 40 → Shortest a b (path a b)
unfolding path
shortest a b h =
    record {
      leads = path-leads (dist a b) a b refl h;
      fewest = λ cs l. omega (arith, length-path a b, move-fewest cs none a b l);
      smallest = λ cs l e. smallest (dist a b) a b cs refl l (e ∙ length-path a b);
    }
