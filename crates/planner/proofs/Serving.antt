-- What bytes do for a picture, with the steps of document 01 or with switches besides.
use mathlib.Core.Path.{◌≡◌, refl, sym, ap, ◌∙◌}
use mathlib.Core.Bool.{Bool, true, false}
use mathlib.Core.List.{List}
use Prim.Native.Nat.{ℕ, ◌≤◌, ◌<◌}
use native.Mathlib.Omega.{arith}
use lib.Dec.{eqb}
use lib.ListN.{length, get_or}
use Rattle.condition.specs.declared.Condition.{Condition}
use Rattle.condition.specs.Set.{with_pending}
use Rattle.condition.specs.Bytes.{is_char, run_of}
use Rattle.condition.specs.Steps.{reading_order}
use Rattle.moves.specs.Moves.{any, moves}
use Rattle.moves.proofs.Interpreter.{Ready}
use Rattle.planner.specs.Plan.{Pictured}
use Rattle.planner.specs.Fonts.{pictured_in}
use Rattle.planner.proofs.Canvas.{canvas}
use Rattle.planner.proofs.Costs.{cost, length-plan}
use Rattle.planner.proofs.Picture.{wrongs_in, plan_over, Switches, deliver, Reaches, plan-reaches, plan-fewest}
use Rattle.planner.proofs.Seam.{embed, canvas_of, ordered_from, run_from, run_is, order_is, ends}

-- a condition that can be planned from, and codes that it can show
pub record Plannable (c : Condition) (wanted : List ℕ) (asked : ℕ) : Type 0 where
  pub ready : Ready c
  pub codes-40 : length c.codes ≡ 40
  pub fonts-40 : length c.fonts ≡ 40
  pub wanted-40 : length wanted ≡ 40
  pub asked-40 : asked < 40
  pub escape-free : is_char c 0x1b ≡ false
  pub moves-free : (b : ℕ) → any (eqb b) moves ≡ true → is_char c b ≡ false
  pub shown : (i : ℕ) → i < 40 → is_char c (get_or wanted i 0) ≡ true

-- fonts that can be wanted of it, with steps to switch between them
pub record Switchable (c : Condition) (fonts : List ℕ) : Type 0 where
  pub wanted-fonts-40 : length fonts ≡ 40
  pub wanted-fonts-1 : (i : ℕ) → get_or fonts i 0 ≤ 1
  pub selected-1 : c.font ≤ 1
  pub free18 : is_char c 0x18 ≡ false
  pub free19 : is_char c 0x19 ≡ false
  pub free1a : is_char c 0x1a ≡ false

module _ (switching : Bool) (c : Condition) (r : Ready c) (ws gs : List ℕ) (q : ℕ) (bs : List ℕ) where
  -- a string that reaches the picture gives it and leaves everything else
  gives-it : Reaches switching c.euro (is_char c) ws gs q (canvas_of c) bs
      → run_of c bs ≡ pictured_in c ws gs q (run_from switching c bs).font
  gives-it g =
      let f = (run_from switching c bs).font in
      let e = ends switching c.euro (is_char c) bs (canvas_of c) 0 g.steps in
      run_is switching c r bs g.steps
      ∙ (λ i. embed c (canvas (e i) (g.cursor i) f (g.codes i) (g.fonts i)))
      ∙ (λ i. with_pending (pictured_in c ws gs q f) (sym r.whole i))

  -- a string after which the picture is there reaches it
  reaches-it : ordered_from switching c bs ≡ true → Pictured (run_of c bs) ws gs q
      → Reaches switching c.euro (is_char c) ws gs q (canvas_of c) bs
  reaches-it s g =
      let e = sym (run_is switching c r bs s) in
      record {
        steps = s;
        codes = ap (λ (d : Condition). d.codes) e ∙ g.codes;
        fonts = ap (λ (d : Condition). d.fonts) e ∙ g.fonts;
        cursor = ap (λ (d : Condition). d.cursor) e ∙ g.cursor;
      }

-- the plan for the wanted font of each cell, and what it costs
abbrev pub made : (ℕ → ℕ) → Condition → List ℕ → ℕ → List ℕ
made font c wanted asked = plan_over c.euro font wanted asked c.cursor c.font c.codes c.fonts

pub made-length : (font : ℕ → ℕ) (c : Condition) (wanted : List ℕ) (asked : ℕ)
    → length (made font c wanted asked)
    ≡ cost c.euro font asked (c.cursor, c.font) (wrongs_in font wanted c.codes c.fonts)
made-length font c wanted asked =
    length-plan c.euro font wanted asked c.cursor c.font (wrongs_in font wanted c.codes c.fonts)

-- bytes that are one of the strings that are allowed, give the picture, with a font selected of which `Ok` holds, and are the
-- fewest
pub record Serves (Allowed : Condition → List ℕ → Bool) (Ok : ℕ → Type 0) (c : Condition) (wanted gs : List ℕ) (asked : ℕ)
    (bytes : List ℕ) : Type 0 where
  pub selected : ℕ
  pub ok : Ok selected
  pub gives : run_of c bytes ≡ pictured_in c wanted gs asked selected
  pub ordered : Allowed c bytes ≡ true
  pub fewest : (bs : List ℕ) → Allowed c bs ≡ true → Pictured (run_of c bs) wanted gs asked → length bytes ≤ length bs

-- the plan without a clear does. `font` gives the wanted fonts gs by their place
module _ (switching : Bool) (Ok : ℕ → Type 0) (font : ℕ → ℕ) (c : Condition) (wanted gs : List ℕ) (asked : ℕ) where
  pub serves : Plannable c wanted asked → length gs ≡ 40 → ((i : ℕ) → i < 40 → get_or gs i 0 ≡ font i) → Ok c.font
      → ((i : ℕ) → i < 40 → Ok (font i)) → Switches switching c.euro (is_char c) Ok font wanted asked
      → Serves (reading_order switching) Ok c wanted gs asked (made font c wanted asked)
  serves r long same ok fonts-ok switches =
      let d = deliver switching c.euro (is_char c) Ok font wanted asked r.escape-free r.moves-free switches fonts-ok
      r.shown r.asked-40 40 0 c.cursor 0 c.font c.codes c.fonts ok r.codes-40 r.fonts-40 refl (omega arith)
      (λ j l. absurd (omega arith)) in
      let g = plan-reaches switching c.euro (is_char c) font wanted gs asked c.cursor c.font c.codes c.fonts
      r.wanted-40 long r.codes-40 r.fonts-40 same r.ready.inside Ok d in
      record {
        selected = (run_from switching c (made font c wanted asked)).font;
        ok = g.1;
        gives = gives-it switching c r.ready wanted gs asked (made font c wanted asked) g.0;
        ordered = order_is switching c r.ready _ ∙ g.0.steps;
        fewest = λ bs s p.
            plan-fewest switching c.euro (is_char c) font wanted gs asked c.cursor c.font c.codes c.fonts
            r.wanted-40 long r.codes-40 r.fonts-40 same r.ready.inside bs
            (reaches-it switching c r.ready wanted gs asked bs (sym (order_is switching c r.ready bs) ∙ s) p);
      }
