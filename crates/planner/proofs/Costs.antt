-- Laws of the list of flagged places and of what it costs to write them.
use mathlib.Core.Path.{◌≡◌, refl, sym, ap, ◌∙◌}
use mathlib.Core.Logic.{◌≢◌}
use mathlib.Core.Bool.{Bool, true, false, cond}
use mathlib.Core.List.{List, [], ◌∷◌}
use Prim.Native.Nat.{ℕ, zero, suc, ◌+◌, ◌*◌, ◌≤◌, ◌<◌}
use native.Mathlib.Nat.{le_refl}
use native.Mathlib.Numerals.{add-one}
use native.Mathlib.Omega.{arith}
use lib.Dec.{eqb}
use lib.ListN.{length, length-append, get_or}
use borrow.Author.Tests.{eqb-true, eqb-false, eq-eqb, ne_eqb}
use Rattle.laws.proofs.Tests.{by_cases, by_equal}
use Rattle.moves.specs.Moves.{next, move, dist}
use Rattle.planner.specs.Plan.{flagged}
use Rattle.planner.specs.Fonts.{switch, fonts_plan_of}
use Rattle.moves.proofs.Moving.{dist-step, dist-most, next_up, dist-along, length-path}

-- Flagged places ---------------------------------------------------------------------------------------------------------------

pub flagged-yes : (w : ℕ → Bool) (n i : ℕ) → w i ≡ true → flagged w (suc n) i ≡ i ∷ flagged w n (suc i)
unfolding flagged
flagged-yes w n i e = rw e

pub flagged-no : (w : ℕ → Bool) (n i : ℕ) → w i ≡ false → flagged w (suc n) i ≡ flagged w n (suc i)
unfolding flagged
flagged-no w n i e = rw e

pub flagged-same : (w v : ℕ → Bool) (n i : ℕ) → ((j : ℕ) → i ≤ j → j < i + n → w j ≡ v j) → flagged w n i ≡ flagged v n i
unfolding flagged
flagged-same w v zero i h = refl
flagged-same w v (suc n) i h =
    rw (h i (le_refl i) (omega arith), flagged-same w v n (suc i) (λ j l k. h j (omega arith) (omega arith)))

pub flagged-none : (w : ℕ → Bool) (n i : ℕ) → ((j : ℕ) → j < i + n → w j ≡ false) → flagged w n i ≡ []
unfolding flagged
flagged-none w zero i h = refl
flagged-none w (suc n) i h = rw (h i (omega arith)) (flagged-none w n (suc i) (λ j l. h j (omega arith)))

-- and the other way round: where none is flagged the test is false everywhere
pub unflagged : (w : ℕ → Bool) (n i : ℕ) → flagged w n i ≡ [] → (j : ℕ) → i ≤ j → j < i + n → w j ≡ false
unfolding flagged
unflagged w zero i e j l k = absurd (omega arith)
unflagged w (suc n) i e j l k =
    by_cases (w i) (λ y. let z : suc (length (flagged w n (suc i))) ≡ 0 = ap length (sym (flagged-yes w n i y) ∙ e) in absurd
    (omega arith))
    (λ y. by_equal j i (λ q. rw q y) (λ q. unflagged w n (suc i) (rw y at e) j (omega arith) (omega arith)))

pub flagged-length : (w : ℕ → Bool) (n i : ℕ) → length (flagged w n i) ≤ n
unfolding flagged
flagged-length w zero i = omega arith
flagged-length w (suc n) i =
    let l = flagged-length w n (suc i) in
    by_cases (w i) (λ e. rw (flagged-yes w n i e) (omega (arith, l))) (λ e. rw (flagged-no w n i e) (omega (arith, l)))

-- p is the first flagged place of w, and v is w with p taken away
pub flagged-cons : (w v : ℕ → Bool) (n i p : ℕ) → i ≤ p → p < i + n → ((j : ℕ) → j < p → w j ≡ false) → w p ≡ true → v p ≡ false
    → ((j : ℕ) → j ≢ p → v j ≡ w j) → flagged w n i ≡ p ∷ flagged v n i
unfolding flagged
flagged-cons w v zero i p h l nw wp vp o = absurd (omega arith)
flagged-cons w v (suc n) i p h l nw wp vp o =
    by_cases (eqb i p) (λ e. let q = eqb-true i p e in
    rw (q, wp, vp) (ap {B = List ℕ} (λ r. p ∷ r) (flagged-same w v n (suc p) (λ j k l. sym (o j (omega arith))))))
    (λ e. let q = eqb-false i p e in
    let z = nw i (omega (arith, q)) in
    rw (z, o i q ∙ z) (flagged-cons w v n (suc i) p (omega (arith, q)) (omega arith) nw wp vp o))

-- Costs ------------------------------------------------------------------------------------------------------------------------

-- what it costs to write the places xs in turn: D s x bytes to get ready for x in the state s, one to write, and E s to end
unfoldable pub total : {S : Type 0} → (S → ℕ → ℕ) → (S → ℕ) → (ℕ → S) → S → List ℕ → ℕ
total D E after s [] = E s
total D E after s (x ∷ xs) = D s x + 1 + total D E after (after x) xs

-- with the planner's moves, to end at q
abbrev pub move_cost : ℕ → ℕ → List ℕ → ℕ
move_cost q p xs = total dist (λ s. dist s q) next p xs

module _ {S : Type 0} (D : S → ℕ → ℕ) (E : S → ℕ) (after : ℕ → S) where
  -- a state from which every place is at most k further away
  pub shift : (k : ℕ) (s t : S) → ((x : ℕ) → D s x ≤ k + D t x) → E s ≤ k + E t
      → (xs : List ℕ) → total D E after s xs ≤ k + total D E after t xs
  unfolding total
  shift k s t h e [] = e
  shift k s t h e (x ∷ xs) = omega (arith, h x)

  -- a write at p, with k bytes to get ready: the first flagged place is written, or a write that was not needed is paid as a step
  pub put-total : (k p : ℕ) (s t : S) (w v : ℕ → Bool) → p < 40 → D s p ≤ k → after p ≡ t
      → ((x : ℕ) → D s x ≤ k + 1 + D t x) → E s ≤ k + 1 + E t
      → ((j : ℕ) → j < suc p → v j ≡ false) → ((j : ℕ) → j ≢ p → v j ≡ w j)
      → total D E after s (flagged w 40 0) ≤ k + 1 + total D E after t (flagged v 40 0)
  unfolding total
  put-total k p s t w v hp near at far end r o =
      let first : (j : ℕ) → j < p → w j ≡ false = λ j l. sym (o j (omega arith)) ∙ r j (omega arith) in
      let here : v p ≡ false = r p (omega arith) in
      by_cases (w p)
      (λ e. rw (flagged-cons w v 40 0 p (omega arith) (omega arith) first e here o, at) (omega arith))
      (λ e.
      let alike : (j : ℕ) → w j ≡ v j = λ j. by_equal j p (λ y. ap w y ∙ e ∙ sym here ∙ ap v (sym y)) (λ n. sym (o j n)) in
      rw (flagged-same w v 40 0 (λ j l k. alike j)) (shift (k + 1) s t far end (flagged v 40 0)))

pub move-home : (q p : ℕ) (xs : List ℕ) → move_cost q p xs ≤ 1 + move_cost q 0 xs
unfolding move
move-home q p xs = shift dist (λ s. dist s q) next 1 p 0 (λ x. dist-step 0x0c p x refl) (dist-step 0x0c p q refl) xs

-- the cost from a place at or before i is at most 43 less that place
pub move-bound : (q : ℕ) (w : ℕ → Bool) (n i p : ℕ) → i + n ≡ 40 → p ≤ i → move_cost q p (flagged w n i) + p ≤ 43
unfolding flagged total
move-bound q w zero i p e l = omega (arith, dist-most p q)
move-bound q w (suc n) i p e l =
    by_cases (w i)
    (λ z. let b = move-bound q w n (suc i) (suc i) (omega arith) (omega arith) in
    rw (flagged-yes w n i z) (omega (arith, dist-along p i l (omega arith), last q w n i (omega arith) b)))
    (λ z. rw (flagged-no w n i z) (move-bound q w n (suc i) p (omega arith) (omega arith)))
  where
    last : (q : ℕ) (w : ℕ → Bool) (n i : ℕ) → i + n ≡ 39 → move_cost q (suc i) (flagged w n (suc i)) + suc i ≤ 43
        → move_cost q (next i) (flagged w n (suc i)) + i ≤ 42
    last q w zero i e h = omega (arith, dist-most (next i) q)
    last q w (suc n) i e h = rw (next_up i (omega arith), add-one i) (omega arith)

pub move-most : (q : ℕ) (w : ℕ → Bool) (p : ℕ) → move_cost q p (flagged w 40 0) ≤ 44
move-most q w p = omega (arith, move-home q p (flagged w 40 0), move-bound q w 40 0 0 refl (omega arith))

-- Switches ----------------------------------------------------------------------------------------------------------------------

pub switch-same : (e : Bool) (f h : ℕ) → f ≡ h → switch e f h ≡ []
unfolding switch
switch-same e f h q = rw (eq-eqb f h q)

pub switch-katakana : (e : Bool) (f h : ℕ) → (f ≡ h → ⊥) → h ≡ 1 → switch e f h ≡ 0x19 ∷ []
unfolding switch
switch-katakana e f h n q = rw (ne_eqb f h n, eq-eqb h 1 q)

pub switch-international : (e : Bool) (f h : ℕ) → (f ≡ h → ⊥) → (h ≡ 1 → ⊥) → switch e f h ≡ cond e (0x18 ∷ 0x1a ∷ []) (0x18 ∷ [])
unfolding switch
switch-international e f h n q = rw (ne_eqb f h n, ne_eqb h 1 q)

pub switch-none : (e : Bool) (f : ℕ) → switch e f f ≡ []
switch-none e f = switch-same e f f refl

-- what 18h takes, by whether the Euro mark is on
abbrev pub back_length : Bool → ℕ
back_length true = 2
back_length false = 1

back-most : (e : Bool) → back_length e ≤ 2
back-most true = omega arith
back-most false = omega arith

pub back_some : (e : Bool) → 1 ≤ length {A = ℕ} (cond e (0x18 ∷ 0x1a ∷ []) (0x18 ∷ []))
back_some true = omega arith
back_some false = omega arith

-- 19h is no way round, and neither is 18h
pub switch-on : (e : Bool) (f h : ℕ) → length (switch e f h) ≤ 1 + length (switch e 1 h)
unfolding switch
switch-on e f h =
    by_cases (eqb f h) (λ z. rw z (omega arith))
    (λ z.
    by_cases (eqb h 1) (λ y. rw (z, y) (omega arith))
    (λ y. rw (z, y, ne_eqb 1 h (λ i. eqb-false h 1 y (sym i))) (omega arith)))

-- the longest is 18h with what it takes
switch-short : (e : Bool) (f h : ℕ) → length (switch e f h) ≤ back_length e
unfolding switch
switch-short e f h = most e (eqb f h) (eqb h 1)
  where
    most : (e s t : Bool) → length {A = ℕ} (cond s [] (cond t (0x19 ∷ []) (cond e (0x18 ∷ 0x1a ∷ []) (0x18 ∷ [])))) ≤ back_length e
    most true true t = omega arith
    most true false true = omega arith
    most true false false = omega arith
    most false true t = omega arith
    most false false true = omega arith
    most false false false = omega arith

pub switch_back : (e : Bool) (f h : ℕ) → length (switch e f h) ≤ back_length e + length (switch e 0 h)
switch_back e f h = omega (arith, switch-short e f h)

pub switch-two : (e : Bool) (f h : ℕ) → length (switch e f h) ≤ 2 + length (switch e 0 h)
switch-two e f h = omega (arith, switch_back e f h, back-most e)

-- going back takes one byte more than going on, at most
switch-most : (e : Bool) (f h : ℕ) → f ≤ 1 → h ≤ 1 → 2 * length (switch e f h) + h ≤ 3 + f
switch-most e zero zero l m = omega (arith, ap length (switch-none e 0))
switch-most e (suc f) zero l m = omega (arith, switch-two e (suc f) 0, ap length (switch-none e 0))
switch-most e f (suc h) l m = rw (one h m) (omega (arith, switch-on e f 1, ap length (switch-none e 1)))
  where
    one : (h : ℕ) → suc h ≤ 1 → suc h ≡ 1
    one h m = omega arith

module _ (euro : Bool) (font : ℕ → ℕ) where
  -- the cost from a place and a selected font
  abbrev pub cost : ℕ → ℕ × ℕ → List ℕ → ℕ
  cost q s xs =
      total (λ s x. dist s.0 x + length (switch euro s.1 (font x))) (λ s. dist s.0 q) (λ x. (next x, font x)) s xs

  pub cost_step : (k q p r f : ℕ) (xs : List ℕ) → ((x : ℕ) → dist p x ≤ k + dist r x) → cost q (p, f) xs ≤ k + cost q (r, f) xs
  cost_step k q p r f xs h = shift _ _ _ k (p, f) (r, f) (λ x. omega (arith, h x)) (h q) xs

  pub cost-switch : (k q p f g : ℕ) (xs : List ℕ) → ((h : ℕ) → length (switch euro f h) ≤ k + length (switch euro g h))
      → cost q (p, f) xs ≤ k + cost q (p, g) xs
  cost-switch k q p f g xs h = shift _ _ _ k (p, f) (p, g) (λ x. omega (arith, h (font x))) (omega arith) xs

  -- the moves' part of it, and the switches'
  unfoldable switches : ℕ → List ℕ → ℕ
  switches f [] = 0
  switches f (x ∷ xs) = length (switch euro f (font x)) + switches (font x) xs

  parts : (q p f : ℕ) (xs : List ℕ) → cost q (p, f) xs ≡ move_cost q p xs + switches f xs
  unfolding total switches
  parts q p f [] = omega arith
  parts q p f (x ∷ xs) = omega (arith, parts q (next x) (font x) xs)

  switches-most : ((x : ℕ) → font x ≤ 1) → (f : ℕ) (xs : List ℕ) → f ≤ 1 → 2 * switches f xs ≤ 3 * length xs + f
  unfolding switches
  switches-most h f [] l = omega arith
  switches-most h f (x ∷ xs) l = omega (arith, switch-most euro f (font x) l (h x), switches-most h (font x) xs (h x))

  pub cost-most : ((x : ℕ) → font x ≤ 1) → (q : ℕ) (w : ℕ → Bool) (p f : ℕ) → f ≤ 1 → cost q (p, f) (flagged w 40 0) ≤ 104
  cost-most h q w p f l =
      omega (arith, parts q p f (flagged w 40 0), move-most q w p, switches-most h f (flagged w 40 0) l, flagged-length w 40 0)

  -- whatever the fonts, a cell takes six bytes at most
  pub cost-far : (q p f : ℕ) (xs : List ℕ) → cost q (p, f) xs ≤ 6 * length xs + 3
  unfolding total
  cost-far q p f [] = dist-most p q
  cost-far q p f (x ∷ xs) =
      omega (arith, dist-most p x, switch-short euro f (font x), back-most euro, cost-far q (next x) (font x) xs)

  pub length-plan : (ws : List ℕ) (q p f : ℕ) (xs : List ℕ) → length (fonts_plan_of euro ws font q p f xs) ≡ cost q (p, f) xs
  unfolding fonts_plan_of total
  length-plan ws q p f [] = length-path p q
  length-plan ws q p f (x ∷ xs) =
      let on = get_or ws x 0 ∷ fonts_plan_of euro ws font q (next x) (font x) xs in
      rw (length-append, length-path p x)
      (omega (arith, length-append (switch euro f (font x)) on, length-plan ws q (next x) (font x) xs))

-- one font alone: no switch
pub cost-one : (euro : Bool) (f q p : ℕ) (xs : List ℕ) → cost euro (λ x. f) q (p, f) xs ≡ move_cost q p xs
unfolding total
cost-one euro f q p [] = refl
cost-one euro f q p (x ∷ xs) = omega (arith, ap length (switch-none euro f), cost-one euro f q (next x) xs)
