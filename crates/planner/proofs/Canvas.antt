-- What the planner's bytes act on: the codes, the fonts, the cursor, the selected font, and how much of a step of several bytes has
-- come. Mode 1. `chars` says which bytes are written as characters, `mark` whether the Euro mark was on at the start, and
-- `switching` whether the steps are those of document 01 alone or have 19h and 18h besides.
use mathlib.Core.Path.{◌≡◌}
use mathlib.Core.Bool.{Bool, true, false, cond, not, ◌&&◌, ◌||◌, and-false, or-false}
use mathlib.Core.List.{List, [], ◌∷◌}
use Prim.Native.Nat.{ℕ, suc, ◌≤◌}
use lib.Dec.{eqb, leb}
use lib.ListN.{get_or, set}
use borrow.Author.Tests.{eqb-true, leb-true}
use Rattle.laws.proofs.Tests.{by_cases, both}
use Rattle.moves.specs.Moves.{any, moves, move, next}
use Rattle.planner.specs.Fonts.{wrong_cell}

-- how much of 1Bh 48h p or of 18h 1Ah has come
pub data Part : Type 0 where
  none escape place back : Part

pub record Canvas : Type 0 where
  pub part : Part
  pub cursor : ℕ
  pub font : ℕ
  pub codes : List ℕ
  pub fonts : List ℕ

abbrev pub canvas : Part → ℕ → ℕ → List ℕ → List ℕ → Canvas
canvas k p f cs fs = record { part = k; cursor = p; font = f; codes = cs; fonts = fs }

unfoldable pub whole : Part → Bool
whole none = true
whole escape = false
whole place = false
whole back = false

-- a cell is wrong when its code or its font differs from the wanted one
unfoldable pub wrong_in : (ℕ → ℕ) → List ℕ → List ℕ → List ℕ → ℕ → Bool
wrong_in font wanted codes fonts i = wrong_cell (get_or codes i 0) (get_or fonts i 0) (get_or wanted i 0) (font i)

module _ (switching mark : Bool) (chars : ℕ → Bool) where
  -- one byte of a string of steps
  unfoldable pub step_at : Part → ℕ → ℕ → List ℕ → List ℕ → ℕ → Canvas
  step_at none p f cs fs b =
      cond (chars b) (canvas none (next p) f (set cs p b) (set fs p f))
      (cond (eqb b 0x1b) (canvas escape p f cs fs)
      (cond (any (eqb b) moves) (canvas none (move b p) f cs fs)
      (cond (eqb b 0x19) (canvas none p 1 cs fs)
      (cond mark (canvas back p f cs fs) (canvas none p 0 cs fs)))))
  step_at escape p f cs fs b = canvas place p f cs fs
  step_at place p f cs fs b = canvas none b f cs fs
  step_at back p f cs fs b = canvas none p 0 cs fs

  abbrev pub step : Canvas → ℕ → Canvas
  step g b = step_at g.part g.cursor g.font g.codes g.fonts b

  abbrev pub run : Canvas → List ℕ → Canvas
  run g [] = g
  run g (b ∷ bs) = run (step g b) bs

  -- the byte b may come next: no cell below lo is written any more
  unfoldable pub may_come : Part → ℕ → ℕ → ℕ → Bool
  may_come none p lo b =
      switching && (not (chars b) && (eqb b 0x18 || eqb b 0x19)) || cond (chars b) (leb lo p) (any (eqb b) moves || eqb b 0x1b)
  may_come escape p lo b = eqb b 0x48
  may_come place p lo b = leb b 0x27
  may_come back p lo b = not (chars b) && eqb b 0x1a

  -- the lowest place that may be written after it
  unfoldable pub low_at : Part → ℕ → ℕ → ℕ → ℕ
  low_at none p lo b = cond (chars b) (suc p) lo
  low_at escape p lo b = lo
  low_at place p lo b = lo
  low_at back p lo b = lo

  -- a reading-order string
  abbrev pub ordered : Canvas → ℕ → List ℕ → Bool
  ordered g lo [] = whole g.part
  ordered g lo (b ∷ bs) = may_come g.part g.cursor lo b && ordered (step g b) (low_at g.part g.cursor lo b) bs

  -- what the byte b, which may come next, does where nothing is half received, by its kind: a character write, 1Bh, a one-byte
  -- move, 19h, 18h with 1Ah to follow, 18h alone
  pub by_kind : (P : Canvas → ℕ → Type 0) (p lo f : ℕ) (cs fs : List ℕ) (b : ℕ) → may_come none p lo b ≡ true
      → (chars b ≡ true → lo ≤ p → P (canvas none (next p) f (set cs p b) (set fs p f)) (suc p))
      → (chars b ≡ false → b ≡ 0x1b → P (canvas escape p f cs fs) lo)
      → (chars b ≡ false → any (eqb b) moves ≡ true → P (canvas none (move b p) f cs fs) lo)
      → (chars b ≡ false → switching ≡ true → b ≡ 0x19 → P (canvas none p 1 cs fs) lo)
      → (chars b ≡ false → switching ≡ true → b ≡ 0x18 → mark ≡ true → P (canvas back p f cs fs) lo)
      → (chars b ≡ false → switching ≡ true → b ≡ 0x18 → mark ≡ false → P (canvas none p 0 cs fs) lo)
      → P (step_at none p f cs fs b) (low_at none p lo b)
  unfolding step_at may_come low_at
  by_kind P p lo f cs fs b a write esc move on off1 off0 =
      by_cases (chars b) (λ e. rw e (write e (leb-true lo p (rw (e, and-false) at a))))
      (λ e. rw e
      (by_cases (eqb b 0x1b) (λ z. rw z (esc e (eqb-true b 0x1b z)))
      (λ z. rw z
      (by_cases (any (eqb b) moves) (λ m. rw m (move e m))
      (λ m.
      let o = rw (e, z, m, or-false) at a in
      let s : switching ≡ true = (both switching _ o).0 in
      rw m
      (by_cases (eqb b 0x19) (λ y. rw y (on e s (eqb-true b 0x19 y)))
      (λ y.
      let t : b ≡ 0x18 = eqb-true b 0x18 (rw (y, or-false) at (both switching _ o).1) in
      rw y (by_cases mark (λ k. rw k (off1 e s t k)) (λ k. rw k (off0 e s t k))))))))))
