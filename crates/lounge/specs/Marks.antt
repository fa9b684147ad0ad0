-- The marks of a character (001, 8.1.1 6 to 11): 1 bright, 2 blink, 4 underline, added; each is a bit.
use Rattle.std.specs.Prelude.{ℕ, ◌+◌, ◌-◌, Bool, cond, ◌&&◌, List, ◌++◌, map, take, drop, eqb, leb}
use Rattle.std.specs.Int.Bits.{bit_and, bit_or}

abbrev pub bright : ℕ
bright = 1

abbrev pub blink : ℕ
blink = 2

abbrev pub underline : ℕ
underline = 4

-- the mark that an area code gives: 17h bright, 19h blink, 1Ch underline
unfoldable pub mark_of : ℕ → ℕ
mark_of area = cond (eqb area 0x17) bright (cond (eqb area 0x19) blink underline)

-- a character's marks m have the mark k
unfoldable pub has_mark : ℕ → ℕ → Bool
has_mark k m = eqb (bit_and m k) k

-- with the mark k, and without it; its other marks stay
abbrev pub marked : ℕ → ℕ → ℕ
marked k m = bit_or m k

abbrev pub unmarked : ℕ → ℕ → ℕ
unmarked k m = bit_and m (7 - k)

-- the two positions of an area code: a pair out of order or above 27h is dropped
unfoldable pub is_pair : ℕ → ℕ → Bool
is_pair first second = leb first second && leb second 0x27

-- the characters from the first position to the second, both counted, get the mark
unfoldable pub marked_area : ℕ → ℕ → ℕ → List ℕ → List ℕ
marked_area k first second marks =
    take first marks ++ (map (marked k) (take (second + 1 - first) (drop first marks)) ++ drop (second + 1) marks)

-- cancel: no character has the mark
unfoldable pub cancelled : ℕ → List ℕ → List ℕ
cancelled k marks = map (unmarked k) marks
