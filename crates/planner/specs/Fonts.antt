-- Two fonts in one picture (document 02, W1): the plan without a clear, and what such a plan is for.
use Rattle.std.specs.Prelude.{ℕ, ◌≤◌, ◌≡◌, List, [], ◌∷◌, ◌++◌, Bool, true, cond, not, ◌&&◌, length, get_or, eqb}
use Rattle.condition.specs.declared.Condition.{Condition}
use Rattle.condition.specs.Set.{with_cells, with_cursor, with_font}
use Rattle.condition.specs.Bytes.{run_of}
use Rattle.moves.specs.Moves.{next}
use Rattle.moves.specs.Ways.{path}
use Rattle.planner.specs.Plan.{flagged, Pictured}

-- The plan ----------------------------------------------------------------------------------------------------------------------

-- a cell is wrong when its code or its font differs from the wanted one
abbrev pub wrong_cell : ℕ → ℕ → ℕ → ℕ → Bool
wrong_cell code font wanted_code wanted_font = not (eqb code wanted_code && eqb font wanted_font)

unfoldable pub wrong_for : Condition → List ℕ → List ℕ → ℕ → Bool
wrong_for c wanted fonts i = wrong_cell (get_or c.codes i 0) (get_or c.fonts i 0) (get_or wanted i 0) (get_or fonts i 0)

-- the switch from a font to another: 19h, and 18h to go back; while the Euro mark is on, 18h 1Ah
unfoldable pub switch : Bool → ℕ → ℕ → List ℕ
switch euro from to =
    cond (eqb from to) [] (cond (eqb to 1) (0x19 ∷ []) (cond euro (0x18 ∷ 0x1a ∷ []) (0x18 ∷ [])))

-- the plan writes only wrong cells, with the moves of the one-font plan. A switch comes after the moves and right before the write
-- that needs it, never otherwise. `font` is the wanted font of each cell, f the selected one
unfoldable pub fonts_plan_of : Bool → List ℕ → (ℕ → ℕ) → ℕ → ℕ → ℕ → List ℕ → List ℕ
fonts_plan_of euro wanted font asked p f [] = path p asked
fonts_plan_of euro wanted font asked p f (x ∷ xs) =
    path p x ++ (switch euro f (font x) ++ get_or wanted x 0 ∷ fonts_plan_of euro wanted font asked (next x) (font x) xs)

unfoldable pub fonts_plan : Condition → List ℕ → List ℕ → ℕ → List ℕ
fonts_plan c wanted fonts asked =
    fonts_plan_of c.euro wanted (λ i. get_or fonts i 0) asked c.cursor c.font (flagged (wrong_for c wanted fonts) 40 0)

-- Demand 3 --------------------------------------------------------------------------------------------------------------------

-- the picture in its fonts and the cursor where asked, with f selected; everything else as it was
abbrev pub pictured_in : Condition → List ℕ → List ℕ → ℕ → ℕ → Condition
pictured_in c wanted fonts asked f = with_font (with_cursor (with_cells c wanted fonts) asked) f

-- the bytes give the picture and the cursor and leave everything else but the selected font, which is free at the end; they are one
-- of the strings that are allowed; no such string after which the picture is there is shorter; and they are at most 104. Allowed
-- are the strings of the larger set of steps (`reading_order true`), or those of both kinds of start (`either_start true`)
pub record FontsDelivers (Allowed : Condition → List ℕ → Bool) (c : Condition) (wanted fonts : List ℕ) (asked : ℕ) (bytes : List ℕ)
    : Type 0 where
  pub gives : run_of c bytes ≡ pictured_in c wanted fonts asked (run_of c bytes).font
  pub ordered : Allowed c bytes ≡ true
  pub fewest : (bs : List ℕ) → Allowed c bs ≡ true → Pictured (run_of c bs) wanted fonts asked → length bytes ≤ length bs
  pub most : length bytes ≤ 104
