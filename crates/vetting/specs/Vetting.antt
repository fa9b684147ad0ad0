-- Vetting other people's strings (document 02, W11): does this string use only the permitted steps in reading order, under one-font
-- rules with the clear of W4, and give the wanted picture and cursor?
use Rattle.std.specs.Prelude.{ℕ, zero, suc, ◌+◌, ◌-◌, ◌≡◌, ◌↔◌, Bool, true, false, cond, ◌&&◌, List, [], ◌∷◌, length, get_or, take}
use Rattle.std.specs.Prelude.{replicate, eqb, ltb, leb}
use Rattle.condition.specs.declared.Condition.{Condition}
use Rattle.condition.specs.Bytes.{run_of}
use Rattle.condition.specs.Steps.{either_start}
use Rattle.layout.specs.Layout.{condition_in}
use Rattle.planner.specs.Plan.{flagged, Pictured, Delivers}
use Rattle.planner.specs.Fonts.{wrong_cell}
use Rattle.planner.specs.Clear.{either_plan}
use Rattle.planner.specs.Answer.{plan_refusal}
use Rattle.host.specs.Host.{host_refusal_by}
use Rattle.vetting.specs.Verdicts.{Verdict, Refused, Byte, Cell, Cursor, Yes}

-- The question ------------------------------------------------------------------------------------------------------------------

-- only the permitted steps in reading order, with the clear of W4: the strings over which the planner's demand on fewest bytes is
-- read
abbrev pub permitted : Condition → List ℕ → Bool
permitted c string = either_start false c string

-- the string uses only these, and after it the wanted codes are there, each in the selected font, and the cursor where asked
pub record Gives (c : Condition) (wanted : List ℕ) (asked : ℕ) (string : List ℕ) : Type 0 where
  pub steps : permitted c string ≡ true
  pub picture : Pictured (run_of c string) wanted (replicate 40 c.font) asked

-- Why not -----------------------------------------------------------------------------------------------------------------------

-- how much of a string, at most n bytes, is permitted: the longest beginning that is
unfoldable pub longest : Condition → List ℕ → ℕ → ℕ
longest c string zero = zero
longest c string (suc n) = cond (permitted c (take (suc n) string)) (suc n) (longest c string n)

-- the earliest byte, counted from 0, at which it stops being permitted steps. Of a bad or cut jump this is its 1Bh: no beginning
-- that ends in a part of a jump is permitted
abbrev pub stop_of : Condition → List ℕ → ℕ
stop_of c string = longest c string (length string)

-- the wrong cells after it, in rising order: a code differs, or a font is not the selected one (which no permitted step changes)
unfoldable pub wrong_after : Condition → List ℕ → List ℕ → List ℕ
wrong_after c wanted string =
    flagged (λ i. wrong_cell (get_or (run_of c string).codes i 0) (get_or (run_of c string).fonts i 0)
    (get_or wanted i 0) c.font) 40 0

-- by these cells: the lowest; where there is none, the cursor, where that is not as asked; else yes
abbrev pub picture_verdict : List ℕ → Bool → ℕ → Verdict
picture_verdict (x ∷ xs) there excess = Cell x
picture_verdict [] false excess = Cursor
picture_verdict [] true excess = Yes excess

-- the excess in bytes over the shortest, which is the planner's (by demand 3)
abbrev pub excess_over : Condition → List ℕ → ℕ → List ℕ → ℕ
excess_over c wanted asked string = length string - length (either_plan c wanted asked)

-- what is said of a string that is not refused
unfoldable pub judged_of : Condition → List ℕ → ℕ → List ℕ → Verdict
judged_of c wanted asked string =
    cond (permitted c string)
    (picture_verdict (wrong_after c wanted string) (eqb (run_of c string).cursor asked) (excess_over c wanted asked string))
    (Byte (stop_of c string))

-- Refusals ----------------------------------------------------------------------------------------------------------------------

-- 4: a string above 32,768 bytes. It comes after 1 to 3 of n, which is what the planner refuses by, and before the rest
unfoldable pub long_refusal : ℕ → ℕ → ℕ
long_refusal n size = cond (ltb 0 n && leb n 3) n (cond (ltb 32768 size) 4 n)

-- the planner's 1 to 9, and 4; 10 does not occur: there is room for any plan
unfoldable pub vet_refusal : Condition → List ℕ → ℕ → List ℕ → ℕ
vet_refusal c wanted asked string = long_refusal (plan_refusal c wanted asked 44) (length string)

-- on a block: 1 also where it is not 512 bytes; 2 and 3 as reading it
unfoldable pub block_refusal : List ℕ → List ℕ → ℕ → List ℕ → ℕ
block_refusal b wanted asked string = host_refusal_by (eqb (length wanted) 40) b (vet_refusal (condition_in b) wanted asked string)

-- Answers -----------------------------------------------------------------------------------------------------------------------

-- a verdict by its refusal number
unfoldable pub verdict_by : ℕ → Verdict → Verdict
verdict_by number verdict = cond (eqb number 0) verdict (Refused number)

-- the verdict on a string for the condition that stands in a block
abbrev pub block_verdict : List ℕ → List ℕ → ℕ → List ℕ → Verdict
block_verdict b wanted asked string =
    verdict_by (block_refusal b wanted asked string) (judged_of (condition_in b) wanted asked string)

-- what each verdict says: its refusal number, 0 when accepted; yes or no; the excess, 0 with a no. A refused one is a no
abbrev pub refusal_in : Verdict → ℕ
refusal_in (Refused n) = n
refusal_in (Byte at) = 0
refusal_in (Cell place) = 0
refusal_in Cursor = 0
refusal_in (Yes excess) = 0

abbrev pub is_yes : Verdict → Bool
is_yes (Refused n) = false
is_yes (Byte at) = false
is_yes (Cell place) = false
is_yes Cursor = false
is_yes (Yes excess) = true

abbrev pub excess_in : Verdict → ℕ
excess_in (Refused n) = 0
excess_in (Byte at) = 0
excess_in (Cell place) = 0
excess_in Cursor = 0
excess_in (Yes excess) = excess

-- a string is so much longer than the shortest: it is as long as the planner's and the excess together, and of that plan demand 3
-- says that no string that gives the picture is shorter
pub record Exceeds (c : Condition) (wanted : List ℕ) (asked : ℕ) (string : List ℕ) (excess : ℕ) : Type 0 where
  pub over : length string ≡ excess + length (either_plan c wanted asked)
  pub shortest : Delivers (either_start false) c wanted asked (either_plan c wanted asked)

-- What is promised of a verdict r, by its refusal number: it is this for all inputs; a yes exactly where nothing is refused and the
-- string gives the picture; and then the excess is that over the shortest
pub record Promise (number : ℕ) (c : Condition) (wanted : List ℕ) (asked : ℕ) (string : List ℕ) (r : Verdict) : Type 0 where
  pub answer : r ≡ verdict_by number (judged_of c wanted asked string)
  pub exactly : (is_yes r ≡ true) ↔ ((number ≡ 0) × Gives c wanted asked string)
  pub excess : is_yes r ≡ true → Exceeds c wanted asked string (excess_in r)

-- what `vet` promises
abbrev pub Vets : Condition → List ℕ → ℕ → List ℕ → Verdict → Type 0
Vets c wanted asked string r = Promise (vet_refusal c wanted asked string) c wanted asked string r

-- what `vet_block` promises
abbrev pub VetsBlock : List ℕ → List ℕ → ℕ → List ℕ → Verdict → Type 0
VetsBlock b wanted asked string r = Promise (block_refusal b wanted asked string) (condition_in b) wanted asked string r
