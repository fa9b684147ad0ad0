-- The way: the move string with the fewest bytes from a place to another, of equals the smallest by first differing byte.
use Rattle.std.specs.Prelude.{ℕ, zero, suc, ◌≤◌, ◌<◌, ◌≡◌, List, [], ◌∷◌, Bool, true, false, cond, ◌&&◌, ◌||◌, length, take, eqb}
use Rattle.std.specs.Prelude.{ltb, leb}
use Rattle.std.proofs.lemmas.List.Edits.{sets}
use Rattle.moves.specs.Moves.{any, find, places, moves, move, dist}

-- the move m from a leaves n bytes to b
unfoldable pub leaves : ℕ → ℕ → ℕ → ℕ → Bool
leaves n a b m = eqb (dist (move m a) b) n

-- the smallest byte that leaves n bytes to go: a one-byte move, or 1Bh where none does
unfoldable pub first_byte : ℕ → ℕ → ℕ → ℕ
first_byte n a b = find (leaves n a b) moves 0x1b

-- the n bytes from a to b
unfoldable pub path_of : ℕ → ℕ → ℕ → List ℕ
path_of zero a b = []
path_of (suc n) a b =
    cond (eqb (first_byte n a b) 0x1b) (0x1b ∷ 0x48 ∷ b ∷ [])
    (first_byte n a b ∷ path_of n (move (first_byte n a b) a) b)

unfoldable pub path : ℕ → ℕ → List ℕ
path a b = path_of (dist a b) a b

-- the same for any two numbers: nothing where one of them is no place
unfoldable pub way_of : ℕ → ℕ → List ℕ
way_of a b = cond (places a b) (path a b) []

-- Against all move strings ---------------------------------------------------------------------------------------------------

-- how much of 1Bh 48h p has come
pub data Jump : Type 0 where
  none escape place : Jump

-- a string of moves alone leads from a to b: one-byte moves, and 1Bh 48h p with p at most 27h
unfoldable pub leads_to : Jump → ℕ → ℕ → List ℕ → Bool
leads_to none a b [] = eqb a b
leads_to escape a b [] = false
leads_to place a b [] = false
leads_to none a b (x ∷ xs) = cond (eqb x 0x1b) (leads_to escape a b xs) (any (eqb x) moves && leads_to none (move x a) b xs)
leads_to escape a b (x ∷ xs) = eqb x 0x48 && leads_to place a b xs
leads_to place a b (x ∷ xs) = leb x 0x27 && leads_to none x b xs

-- xs is ys, or smaller by the first differing byte
abbrev pub at_most : List ℕ → List ℕ → Bool
at_most [] ys = true
at_most (x ∷ xs) [] = false
at_most (x ∷ xs) (y ∷ ys) = ltb x y || (eqb x y && at_most xs ys)

-- bs leads from a to b, no move string that does is shorter, and none of its length that does is smaller
pub record Shortest (a b : ℕ) (bs : List ℕ) : Type 0 where
  pub leads : leads_to none a b bs ≡ true
  pub fewest : (cs : List ℕ) → leads_to none a b cs ≡ true → length bs ≤ length cs
  pub smallest : (cs : List ℕ) → leads_to none a b cs ≡ true → length cs ≡ length bs → at_most bs cs ≡ true

-- what `put_way` promises of its answer r and of the output at exit: the way, as far as there is room, and its length; and that
-- between two places, where there is room for it, it is the shortest and of equals the smallest
pub record PutsWay (a b : ℕ) (before after : List ℕ) (r : ℕ) : Type 0 where
  pub answer : r ≡ length (way_of a b)
  pub output : after ≡ sets before 0 (way_of a b)
  pub shortest : r ≤ length before → a < 40 → b < 40 → Shortest a b (take r after)
