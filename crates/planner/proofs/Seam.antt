-- The canvas is the module itself, where that is in mode 1 and reads the planner's steps.
use mathlib.Core.Path.{◌≡◌, refl, sym, ap, ◌∙◌}
use mathlib.Core.Bool.{Bool, true, false, cond, not, and-false, and-not_self}
use mathlib.Core.List.{List, [], ◌∷◌}
use Prim.Native.Nat.{ℕ, ◌<◌}
use native.Mathlib.Numerals.{add-one}
use native.Mathlib.Omega.{arith}
use borrow.Author.Tests.{eqb-true, eq-eqb, leb-true, not-true}
use Rattle.laws.proofs.Tests.{clash, both, and_same}
use Rattle.users.specs.Users.{is_user}
use Rattle.condition.specs.declared.Condition.{Condition}
use Rattle.condition.specs.declared.Pending.{Pending}
use Rattle.condition.specs.declared.Pending.TheVariants.{Nothing, Escape, Position}
use Rattle.condition.specs.Set.{with_cells, with_cursor, with_pending, with_font, with_euro}
use Rattle.condition.specs.Bytes as B
use Rattle.condition.specs.Bytes.{is_char, control_of, escape_of, step_of, run_of}
use Rattle.condition.specs.Steps.{step_byte, low_after, owed, switch_byte, next_byte, in_order, reading_order}
use Rattle.moves.proofs.Moving.{next-below, move-below}
use Rattle.condition.proofs.Characters.{no-user}
use Rattle.moves.proofs.Interpreter.{Ready, moves-to, escapes, writes, placed, is-move}
use Rattle.planner.proofs.Canvas.{Part, none, escape, place, back, Canvas, canvas, whole}
use Rattle.planner.proofs.Canvas.{step_at, step, run, may_come, low_at, ordered, by_kind}

-- what of a condition stands for the part of a step that has come
abbrev pub pending_at : Part → Pending
pending_at none = Nothing
pending_at escape = Escape
pending_at place = Position
pending_at back = Nothing

abbrev pub font_at : Part → ℕ → ℕ
font_at none f = f
font_at escape f = f
font_at place f = f
font_at back f = 0

abbrev pub mark_at : Part → Bool → Bool
mark_at none m = m
mark_at escape m = m
mark_at place m = m
mark_at back m = false

-- c with the planner's part from g
abbrev pub embed : Condition → Canvas → Condition
embed c g =
    with_euro
    (with_font
    (with_pending (with_cursor (with_cells c g.codes g.fonts) g.cursor) (pending_at g.part))
    (font_at g.part g.font))
    (mark_at g.part c.euro)

-- the same, of a canvas by its parts
abbrev stands : Condition → Part → ℕ → ℕ → List ℕ → List ℕ → Condition
stands c k p f cs fs = embed c (canvas k p f cs fs)

abbrev pub canvas_of : Condition → Canvas
canvas_of c = canvas none c.cursor c.font c.codes c.fonts

-- the strings of steps that start from c, and where they lead
abbrev pub ordered_from : Bool → Condition → List ℕ → Bool
ordered_from switching c bs = ordered switching c.euro (is_char c) (canvas_of c) 0 bs

abbrev pub run_from : Bool → Condition → List ℕ → Canvas
run_from switching c bs = run switching c.euro (is_char c) (canvas_of c) bs

module _ (switching : Bool) (c : Condition) (r : Ready c) where
  abbrev goes : Part → ℕ → ℕ → List ℕ → List ℕ → ℕ → Canvas
  goes k p f cs fs b = step_at switching c.euro (is_char c) k p f cs fs b

  abbrev may : Part → ℕ → ℕ → ℕ → Bool
  may k p lo b = may_come switching c.euro (is_char c) k p lo b

  abbrev low : Part → ℕ → ℕ → ℕ → ℕ
  low k p lo b = low_at switching c.euro (is_char c) k p lo b

  -- 1Ah is awaited only where switches are steps and the mark was on
  abbrev Fits : Part → Type 0
  Fits none = Unit {0}
  Fits escape = Unit {0}
  Fits place = Unit {0}
  Fits back = (switching ≡ true) × (c.euro ≡ true)

  embed-ready : (p f : ℕ) (cs fs : List ℕ) → p < 40 → Ready (stands c none p f cs fs)
  embed-ready p f cs fs h = record { one = r.one; still = r.still; inside = h; whole = refl }

  -- a byte that is no character is a control
  control : (p f : ℕ) (cs fs : List ℕ) (b : ℕ) → is_char c b ≡ false
      → step_of (stands c none p f cs fs) b ≡ control_of (stands c none p f cs fs) b
  unfolding B.step_at is_char
  control p f cs fs b e = rw e

  -- one byte of a string of steps
  same : (k : Part) (p lo f : ℕ) (cs fs : List ℕ) (b : ℕ) → p < 40 → Fits k → may k p lo b ≡ true
      → step_of (stands c k p f cs fs) b ≡ embed c (goes k p f cs fs b)
  unfolding step_at may_come B.step_at escape_of control_of is_char
  same none p lo f cs fs b h m a =
      let d = stands c none p f cs fs in
      let g = embed-ready p f cs fs h in
      by_kind switching c.euro (is_char c) (λ g l. step_of d b ≡ embed c g) p lo f cs fs b a
      (λ e l. writes d g b e)
      (λ e z. ap (step_of d) z ∙ escapes d g (ap (is_user c.users) (sym z) ∙ no-user c b e))
      (λ e i. moves-to d g b i (no-user c b e))
      (λ e s y. control p f cs fs b e ∙ ap (control_of d) y)
      (λ e s y k. control p f cs fs b e ∙ ap (control_of d) y)
      (λ e s y k. control p f cs fs b e ∙ ap (control_of d) y ∙ (λ i. with_euro (with_font d 0) (sym k i)))
  same escape p lo f cs fs b h m a = ap (step_of (stands c escape p f cs fs)) (eqb-true b 0x48 a)
  same place p lo f cs fs b h m a =
      let l = leb-true b 0x27 a in
      placed (with_euro (with_font (with_cursor (with_cells c cs fs) p) f) c.euro) b r.still (omega arith)
  same back p lo f cs fs b h m a =
      let d = stands c none p 0 cs fs in
      let e : is_char c b ≡ false = not-true _ (both (not (is_char c b)) _ a).0 in
      let y : b ≡ 0x1a = eqb-true b 0x1a (both (not (is_char c b)) _ a).1 in
      rw e (ap (λ (x : ℕ). control_of (with_euro d false) x) y ∙ (λ i. with_euro d (sym m.1 i)))

  -- and the cursor stays in its places
  inside : (k : Part) (p lo f : ℕ) (cs fs : List ℕ) (b : ℕ) → p < 40 → may k p lo b ≡ true
      → ((goes k p f cs fs b).cursor < 40) × Fits (goes k p f cs fs b).part
  unfolding step_at may_come
  inside none p lo f cs fs b h a =
      by_kind switching c.euro (is_char c) (λ g l. (g.cursor < 40) × Fits g.part) p lo f cs fs b a
      (λ e l. (next-below p h, tt))
      (λ e z. (h, tt))
      (λ e i. (move-below b p h, tt))
      (λ e s y. (h, tt))
      (λ e s y k. (h, (s, k)))
      (λ e s y k. (h, tt))
  inside escape p lo f cs fs b h a = (h, tt)
  inside place p lo f cs fs b h a = (let l = leb-true b 0x27 a in omega arith, tt)
  inside back p lo f cs fs b h a = (h, tt)

  -- a whole string
  runs : (bs : List ℕ) (k : Part) (p lo f : ℕ) (cs fs : List ℕ) → p < 40 → Fits k
      → ordered switching c.euro (is_char c) (canvas k p f cs fs) lo bs ≡ true
      → run_of (stands c k p f cs fs) bs ≡ embed c (run switching c.euro (is_char c) (canvas k p f cs fs) bs)
  unfolding run_of
  runs [] k p lo f cs fs h m o = refl
  runs (b ∷ bs) k p lo f cs fs h m o =
      let a = (both (may k p lo b) _ o).0 in
      let g = goes k p f cs fs b in
      let n = inside k p lo f cs fs b h a in
      ap (λ (d : Condition). run_of d bs) (same k p lo f cs fs b h m a)
      ∙ runs bs g.part g.cursor (low k p lo b) g.font g.codes g.fonts n.0 n.1 (both (may k p lo b) _ o).1

  -- the lowest cell that may be written after a byte is the same
  next_low : (k : Part) (p lo f : ℕ) (cs fs : List ℕ) (b : ℕ) → may k p lo b ≡ true
      → low_after (stands c k p f cs fs) lo b ≡ low k p lo b
  unfolding low_after low_at may_come is_char
  next_low none p lo f cs fs b a = ap (λ (n : ℕ). cond (is_char c b) n lo) (add-one p)
  next_low escape p lo f cs fs b a = refl
  next_low place p lo f cs fs b a = refl
  next_low back p lo f cs fs b a = rw (not-true (is_char c b) (both (not (is_char c b)) _ a).0)

  -- and so is what may come next
  may-come : (k : Part) (p lo f : ℕ) (cs fs : List ℕ) (b : ℕ) → Fits k
      → next_byte switching c.euro (stands c k p f cs fs) lo b ≡ may k p lo b
  unfolding next_byte owed switch_byte step_byte may_come is_char
  may-come none p lo f cs fs b m = rw (and-not_self c.euro, and-false switching, is-move b)
  may-come escape p lo f cs fs b m = rw (and-not_self c.euro, and-false switching)
  may-come place p lo f cs fs b m = rw (and-not_self c.euro, and-false switching)
  may-come back p lo f cs fs b m = rw (m.0, m.1)

  may-end : (k : Part) (p lo f : ℕ) (cs fs : List ℕ) → Fits k → in_order switching c.euro (stands c k p f cs fs) lo [] ≡ whole k
  unfolding in_order owed whole
  may-end none p lo f cs fs m = rw (and-not_self c.euro, and-false switching)
  may-end escape p lo f cs fs m = refl
  may-end place p lo f cs fs m = refl
  may-end back p lo f cs fs m = rw (m.0, m.1)

  -- so the strings are the same
  orders : (bs : List ℕ) (k : Part) (p lo f : ℕ) (cs fs : List ℕ) → p < 40 → Fits k
      → in_order switching c.euro (stands c k p f cs fs) lo bs
      ≡ ordered switching c.euro (is_char c) (canvas k p f cs fs) lo bs
  unfolding in_order
  orders [] k p lo f cs fs h m = may-end k p lo f cs fs m
  orders (b ∷ bs) k p lo f cs fs h m =
      let d = stands c k p f cs fs in
      let g = goes k p f cs fs b in
      rw (may-come k p lo f cs fs b m)
      (and_same (may k p lo b)
      (λ a. let n = inside k p lo f cs fs b h a in
      ap (λ (l : ℕ). in_order switching c.euro (step_of d b) l bs) (next_low k p lo f cs fs b a)
      ∙ ap (λ (d : Condition). in_order switching c.euro d (low k p lo b) bs) (same k p lo f cs fs b h m a)
      ∙ orders bs g.part g.cursor (low k p lo b) g.font g.codes g.fonts n.0 n.1))

  -- From c itself -----------------------------------------------------------------------------------------------------------

  embedded : c ≡ embed c (canvas_of c)
  embedded = λ i. with_pending c (r.whole i)

  pub run_is : (bs : List ℕ) → ordered_from switching c bs ≡ true → run_of c bs ≡ embed c (run_from switching c bs)
  run_is bs o =
      ap (λ (d : Condition). run_of d bs) embedded
      ∙ runs bs none c.cursor 0 c.font c.codes c.fonts r.inside tt o

  pub order_is : (bs : List ℕ) → reading_order switching c bs ≡ ordered_from switching c bs
  unfolding reading_order
  order_is bs =
      rw (eq-eqb c.mode 1 r.one)
      (ap (λ (d : Condition). in_order switching c.euro d 0 bs) embedded
      ∙ orders bs none c.cursor 0 c.font c.codes c.fonts r.inside tt)

-- a reading-order string leaves nothing half received
whole_is : (k : Part) → whole k ≡ true → k ≡ none
unfolding whole
whole_is none e = refl
whole_is escape e = clash e refl
whole_is place e = clash e refl
whole_is back e = clash e refl

module _ (switching mark : Bool) (chars : ℕ → Bool) where
  pub ends : (bs : List ℕ) (g : Canvas) (lo : ℕ) → ordered switching mark chars g lo bs ≡ true
      → (run switching mark chars g bs).part ≡ none
  ends [] g lo o = whole_is g.part o
  ends (b ∷ bs) g lo o =
      let may = may_come switching mark chars g.part g.cursor lo b in
      ends bs (step switching mark chars g b) (low_at switching mark chars g.part g.cursor lo b) (both may _ o).1
