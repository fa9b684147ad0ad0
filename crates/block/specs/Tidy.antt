-- What a reading looks at besides well-formedness, in the bytes themselves; proofs/Tidying.antt has that an intact block is tidy
-- exactly when it is the block of the condition that stands in it.
use Rattle.std.specs.Prelude.{ℕ, List, Bool, true, cond, ◌&&◌, get_or, take, drop, eqb, ltb, leb}
use Rattle.row.specs.Row.{all_up_to}

-- a kind 0 to 6; its code and its bytes held are unused where it is not 6
unfoldable pub kind_good : ℕ → ℕ → ℕ → Bool
kind_good kind code holds = cond (eqb kind 6) true (ltb kind 6 && eqb code 0 && eqb holds 0)

-- the unused bytes 200-509 are 0
abbrev pub rest_zero : List ℕ → Bool
rest_zero b = all_up_to 0 (take 310 (drop 200 b))

-- flags 0 or 1, a kind, and the unused bytes 21-23 and 200-509 are 0
unfoldable pub tidy : List ℕ → Bool
tidy b =
    leb (get_or b 5 0) 1 && leb (get_or b 6 0) 1 && leb (get_or b 9 0) 1 && leb (get_or b 12 0) 1
    && kind_good (get_or b 13 0) (get_or b 14 0) (get_or b 15 0) && all_up_to 0 (take 3 (drop 21 b)) && rest_zero b
