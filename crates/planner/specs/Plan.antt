-- The plan without a clear (document 01, Planner's steps), and what a plan is for: demand 3.
use Rattle.std.specs.Prelude.{ℕ, zero, suc, ◌≤◌, ◌≡◌, List, [], ◌∷◌, ◌++◌, Bool, true, cond, length, get_or, drop, replicate}
use Rattle.condition.specs.declared.Condition.{Condition}
use Rattle.condition.specs.Set.{with_cells, with_cursor}
use Rattle.condition.specs.Bytes.{run_of}
use Rattle.condition.specs.Steps.{wrong}
use Rattle.moves.specs.Moves.{next}
use Rattle.moves.specs.Ways.{path}

-- the places i, i + 1, .. of n places at which the test is true, in rising order
unfoldable pub flagged : (ℕ → Bool) → ℕ → ℕ → List ℕ
flagged test zero i = []
flagged test (suc n) i = cond (test i) (i ∷ flagged test n (suc i)) (flagged test n (suc i))

-- the plan writes only wrong cells. Before the first write, between writes, and to the asked cursor, it uses the fewest move
-- bytes; of equals the smallest by first differing byte
unfoldable pub plan_of : List ℕ → ℕ → ℕ → List ℕ → List ℕ
plan_of wanted asked p [] = path p asked
plan_of wanted asked p (x ∷ xs) = path p x ++ get_or wanted x 0 ∷ plan_of wanted asked (next x) xs

unfoldable pub plan : Condition → List ℕ → ℕ → List ℕ
plan c wanted asked = plan_of wanted asked c.cursor (flagged (wrong c wanted) 40 0)

-- bytes at a buffer's start, and the rest of it as it was
abbrev pub at_start : List ℕ → List ℕ → List ℕ
at_start bytes out = bytes ++ drop (length bytes) out

-- the picture in the selected font and the cursor where asked; everything else as it was
abbrev pub pictured : Condition → List ℕ → ℕ → Condition
pictured c wanted asked = with_cursor (with_cells c wanted (replicate 40 c.font)) asked

-- the picture is there: these codes in these fonts, and the cursor where asked
pub record Pictured (c : Condition) (wanted wanted_fonts : List ℕ) (asked : ℕ) : Type 0 where
  pub codes : c.codes ≡ wanted
  pub fonts : c.fonts ≡ wanted_fonts
  pub cursor : c.cursor ≡ asked

-- Demand 3: the bytes give the picture and the cursor and leave everything else, by what a byte does; they are one of the strings
-- that are allowed; no such string after which the picture is there is shorter; and they are at most 44. Allowed are the
-- reading-order strings (`reading_order false`), or those of both kinds of start (`either_start false`; document 02, W4)
pub record Delivers (Allowed : Condition → List ℕ → Bool) (c : Condition) (wanted : List ℕ) (asked : ℕ) (bytes : List ℕ)
    : Type 0 where
  pub gives : run_of c bytes ≡ pictured c wanted asked
  pub ordered : Allowed c bytes ≡ true
  pub fewest : (bs : List ℕ) → Allowed c bs ≡ true → Pictured (run_of c bs) wanted (replicate 40 c.font) asked
      → length bytes ≤ length bs
  pub most : length bytes ≤ 44
