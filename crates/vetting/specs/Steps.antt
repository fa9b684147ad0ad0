-- One step of a string, for the functions that judge it.
use Rattle.std.specs.Prelude.{ℕ, Bool, false, cond, not, ◌&&◌, ◌||◌, List, [], ◌∷◌, length, get_or, eqb, ltb, leb}
use Rattle.condition.specs.declared.Condition.{Condition}
use Rattle.condition.specs.Steps.{clear_byte}
use Rattle.moves.specs.Moves.{any, moves, move}
use Rattle.vetting.specs.declared.steps.Moved.{Moved}

-- a byte is written as a character, by the index of the user codes
unfoldable pub char_in : List ℕ → ℕ → Bool
char_in index b = not (eqb (get_or index b 0) 0) || leb 0x20 b

-- the string begins with 0Eh that clears
unfoldable pub clears_first : Condition → List ℕ → Bool
clears_first c [] = false
clears_first c (b ∷ bs) = clear_byte c b

-- the same, by the index
unfoldable pub clears_in : List ℕ → List ℕ → Bool
clears_in index s = ltb 0 (length s) && (eqb (get_or s 0 0) 0x0e && not (char_in index 0x0e))

-- a string begins with a whole jump: 1Bh 48h p, p at most 27h
unfoldable pub is_jump : List ℕ → Bool
is_jump s = leb 3 (length s) && (eqb (get_or s 0 0) 0x1b && eqb (get_or s 1 0) 0x48 && leb (get_or s 2 0) 0x27)

-- the move at the start of a string, from the place p: how many bytes it has, 0 for none, and where it leads
unfoldable pub move_of : List ℕ → ℕ → Moved
move_of s p =
    cond (any (eqb (get_or s 0 0)) moves) (record { bytes = 1; to = move (get_or s 0 0) p })
    (cond (is_jump s) (record { bytes = 3; to = get_or s 2 0 })
    (record { bytes = 0; to = p }))
