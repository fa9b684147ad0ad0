-- Four kinds of way that can be written down from the two places, by their lines and columns. The papers do not have them: what a
-- way is Ways says, and that it is the shortest of these is a law (proofs/Four).
use Rattle.std.specs.Prelude.{ℕ, ◌+◌, ◌-◌, ◌/◌, ◌%◌, List, [], ◌∷◌, ◌++◌, cond, length, replicate, eqb, ltb, leb}

-- a place is 0 to 39: line 0 is the top one
abbrev pub line_of : ℕ → ℕ
line_of p = p / 20

abbrev pub column_of : ℕ → ℕ
column_of p = p % 20

-- how far two numbers are apart
abbrev pub apart : ℕ → ℕ → ℕ
apart a b = (a - b) + (b - a)

-- onward: 09h for each place; 39 goes to 0
unfoldable pub onward : ℕ → ℕ → List ℕ
onward a b = replicate ((b + 40 - a) % 40) 0x09

-- sideways: 08h to the left or 09h to the right for each column, and 0Ah to the other line
abbrev pub aside : ℕ → ℕ → ℕ
aside a b = cond (ltb (column_of b) (column_of a)) 0x08 0x09

unfoldable pub sideways : ℕ → ℕ → List ℕ
sideways a b = replicate (apart (column_of a) (column_of b)) (aside a b) ++ replicate (apart (line_of a) (line_of b)) 0x0a

-- from the start of the line: what leads there, 0Ch to the top line, 0Dh on the bottom one, 0Ah 0Dh from top to bottom
abbrev pub to_start : ℕ → ℕ → List ℕ
to_start a b = cond (eqb (line_of b) 0) (0x0c ∷ []) (cond (eqb (line_of a) 0) (0x0a ∷ 0x0d ∷ []) (0x0d ∷ []))

-- and from there 09h for each column
unfoldable pub from_start : ℕ → ℕ → List ℕ
from_start a b = to_start a b ++ replicate (column_of b) 0x09

-- the jump: 1Bh 48h b
abbrev pub jump : ℕ → List ℕ
jump b = 0x1b ∷ 0x48 ∷ b ∷ []

-- the shorter of two strings; of equals the first
abbrev pub shorter : List ℕ → List ℕ → List ℕ
shorter xs ys = cond (leb (length xs) (length ys)) xs ys

-- of equals the first is the smallest: onward and sideways are as long only where they are the same; they come ahead of what begins
-- with 0Ch, 0Dh or 0Ah 0Dh; and the jump, with 1Bh, is last. (Over a line's end the way is onward from 18, 19 and 39 only)
unfoldable pub of_four : ℕ → ℕ → List ℕ
of_four a b = shorter (onward a b) (shorter (sideways a b) (shorter (from_start a b) (jump b)))
