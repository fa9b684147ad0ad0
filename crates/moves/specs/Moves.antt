-- The planner's moves (document 01, Planner's steps): where each leads in mode 1, and the fewest move bytes between two places.
use Rattle.std.specs.Prelude.{ℕ, zero, suc, ◌+◌, ◌-◌, ◌%◌, ◌≤◌, ◌<◌, min, ◌≡◌, ◌≢◌, List, [], ◌∷◌, Bool, true, false, cond, ◌&&◌}
use Rattle.std.specs.Prelude.{◌||◌, eqb, ltb}
use Rattle.row.specs.Row.{line_start}

-- some element of the list passes the test
abbrev pub any : (ℕ → Bool) → List ℕ → Bool
any f [] = false
any f (x ∷ xs) = f x || any f xs

-- the first element that passes the test, or d
abbrev pub find : (ℕ → Bool) → List ℕ → ℕ → ℕ
find f [] d = d
find f (x ∷ xs) d = cond (f x) x (find f xs d)

-- a place is 0 to 39
abbrev pub places : ℕ → ℕ → Bool
places a b = ltb a 40 && ltb b 40

-- Where a one-byte move leads in mode 1 --------------------------------------------------------------------------------------

-- 08h: left one; stays at column 0 of either line
unfoldable pub left : ℕ → ℕ
left p = cond (eqb (p % 20) 0) p (p - 1)

-- 09h: right one; 39 goes to 0
unfoldable pub next : ℕ → ℕ
next p = cond (ltb p 39) (p + 1) 0

-- 0Ah: 0-19 goes down 20; from the bottom, up 20
unfoldable pub down : ℕ → ℕ
down p = cond (ltb p 20) (p + 20) (p - 20)

-- the one-byte moves, in rising order
abbrev pub moves : List ℕ
moves = 0x08 ∷ 0x09 ∷ 0x0a ∷ 0x0c ∷ 0x0d ∷ []

-- where the move m leads from p; 0Ch goes to 0, 0Dh to column 0
unfoldable pub move : ℕ → ℕ → ℕ
move m p =
    cond (eqb m 0x08) (left p)
    (cond (eqb m 0x09) (next p)
    (cond (eqb m 0x0a) (down p)
    (cond (eqb m 0x0c) 0
    (line_start p))))

-- The fewest move bytes ------------------------------------------------------------------------------------------------------

-- one byte leads from a to b; two bytes do
unfoldable pub near1 : ℕ → ℕ → Bool
near1 a b = any (λ m. eqb (move m a) b) moves

unfoldable pub near2 : ℕ → ℕ → Bool
near2 a b = any (λ m. near1 (move m a) b) moves

abbrev pub rank : Bool → Bool → Bool → ℕ
rank true n1 n2 = 0
rank false true n2 = 1
rank false false true = 2
rank false false false = 3

-- the fewest move bytes from a to b; 1Bh 48h b is three
unfoldable pub dist : ℕ → ℕ → ℕ
dist a b = rank (eqb a b) (near1 a b) (near2 a b)

-- the same for any two numbers: 0 where one of them is no place
unfoldable pub fewest_of : ℕ → ℕ → ℕ
fewest_of a b = cond (places a b) (dist a b) 0

-- The rule of the numbers ----------------------------------------------------------------------------------------------------

-- the least that f gives for n, n - 1, .. 0
unfoldable pub least_up_to : (ℕ → ℕ) → ℕ → ℕ
least_up_to f zero = f 0
least_up_to f (suc n) = min (f (suc n)) (least_up_to f n)

-- the least, over the first moves, of that move's bytes plus the number from where it leads:
-- 08h, 09h, 0Ah, 0Ch and 0Dh are one byte, and each 1Bh 48h p, p at most 27h, is three
unfoldable pub least : (ℕ → ℕ → ℕ) → ℕ → ℕ → ℕ
least number a b =
    min (1 + number (left a) b)
    (min (1 + number (next a) b)
    (min (1 + number (down a) b)
    (min (1 + number 0 b)
    (min (1 + number (line_start a) b)
    (least_up_to (λ p. 3 + number p b) 0x27)))))

-- the rule of the fewest move bytes: 0 exactly from a place to itself, otherwise the least over first moves; 0 to 3
pub record Ruled (number : ℕ → ℕ → ℕ) (a b : ℕ) : Type 0 where
  pub itself : a ≡ b → number a b ≡ 0
  pub alone : number a b ≡ 0 → a ≡ b
  pub otherwise : a ≢ b → number a b ≡ least number a b
  pub most : number a b ≤ 3

-- what `number` answers for any two numbers, and document 01's rule for two places
pub record Fewest (a b r : ℕ) : Type 0 where
  pub answer : r ≡ fewest_of a b
  pub rule : a < 40 → b < 40 → Ruled fewest_of a b
