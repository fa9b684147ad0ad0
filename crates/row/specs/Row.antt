-- Pictures of two lines of 20 places (document 01, The condition; document 02, W8: of both devices), what moves whole rows,
-- whether one is in range, and whether two are the same.
use Rattle.std.specs.Prelude.{ℕ, ◌+◌, ◌-◌, List, [], ◌∷◌, ◌++◌, Bool, true, false, cond, ◌&&◌, length, take, drop, replicate, eqb}
use Rattle.std.specs.Prelude.{ltb, leb}

-- column 0 of the line of a place
unfoldable pub line_start : ℕ → ℕ
line_start at = cond (ltb at 20) 0 20

-- Scroll (01): top takes bottom, and the bottom line is v
unfoldable pub scrolled : ℕ → List ℕ → List ℕ
scrolled v a = drop 20 a ++ replicate 20 v

-- a line shifts left one (01, 20h-FFh in mode 3), and v comes to its column 19
unfoldable pub shifted : ℕ → ℕ → List ℕ → List ℕ
shifted start v a = take start a ++ take 19 (drop (start + 1) a) ++ v ∷ drop (start + 20) a

-- every place of a line is v
unfoldable pub cleared_line : ℕ → ℕ → List ℕ → List ℕ
cleared_line start v a = take start a ++ (replicate 20 v ++ drop (start + 20) a)

-- a picture has 40 places; anything else stays as it is
unfoldable pub on_picture : (List ℕ → List ℕ) → List ℕ → List ℕ
on_picture f a = cond (eqb (length a) 40) (f a) a

-- each place takes what stands `by` places further on; the last `by` keep what they hold
unfoldable pub advanced : ℕ → List ℕ → List ℕ
advanced by a = drop by a ++ drop (length a - by) a

-- s over the start of d, as far as there is room
unfoldable pub laid : List ℕ → List ℕ → List ℕ
laid s d = take (length d) s ++ drop (length s) d

-- every element is at most n
unfoldable pub all_up_to : ℕ → List ℕ → Bool
all_up_to n [] = true
all_up_to n (x ∷ xs) = leb x n && all_up_to n xs

-- two rows of bytes are the same
unfoldable pub same_bytes : List ℕ → List ℕ → Bool
same_bytes [] [] = true
same_bytes [] (y ∷ ys) = false
same_bytes (x ∷ xs) [] = false
same_bytes (x ∷ xs) (y ∷ ys) = eqb x y && same_bytes xs ys
