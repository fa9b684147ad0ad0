-- The planner's steps (document 01, Planner's steps; document 02, W1 and W4), on bytes, over what a byte does.
use Rattle.std.specs.Prelude.{ℕ, ◌+◌, List, [], ◌∷◌, Bool, false, cond, not, ◌&&◌, ◌||◌, get_or, eqb, leb}
use Rattle.condition.specs.declared.Condition.{Condition}
use Rattle.condition.specs.declared.Pending.{Pending}
use Rattle.condition.specs.declared.Pending.TheVariants.{Nothing, Escape, Position, Luminance, Speed, UserCode, UserData}
use Rattle.condition.specs.Condition.{idle}
use Rattle.condition.specs.Bytes.{is_char, step_of}

-- one byte: 08h, 09h, 0Ah, 0Ch, 0Dh
unfoldable pub is_move : ℕ → Bool
is_move b = eqb b 0x08 || eqb b 0x09 || eqb b 0x0a || eqb b 0x0c || eqb b 0x0d

-- the next byte of a string of steps: a one-byte move, a character write in a cell not below `low`, or 1Bh 48h p with p at most 27h
unfoldable pub step_byte : Pending → Condition → ℕ → ℕ → Bool
step_byte Nothing c low b = cond (is_char c b) (leb low c.cursor) (is_move b || eqb b 0x1b)
step_byte Escape c low b = eqb b 0x48
step_byte Position c low b = leb b 0x27
step_byte Luminance c low b = false
step_byte Speed c low b = false
step_byte UserCode c low b = false
step_byte (UserData code n) c low b = false

-- the lowest cell that may be written after it: above the one that it wrote
unfoldable pub low_after : Condition → ℕ → ℕ → ℕ
low_after c low b = cond (idle c.pending && is_char c b) (c.cursor + 1) low

-- With switches (02, W1) two steps more: 19h, and 18h, which is 18h 1Ah while the Euro mark is on, so that the mark is as before.
-- `mark` is the Euro mark where the string starts

-- 18h was sent while the mark was on: 1Ah comes next
unfoldable pub owed : Bool → Bool → Condition → Bool
owed switching mark c = switching && (mark && not c.euro)

-- 19h or 18h, where no user character sits there
unfoldable pub switch_byte : Condition → ℕ → Bool
switch_byte c b = idle c.pending && not (is_char c b) && (eqb b 0x18 || eqb b 0x19)

-- the next byte of a string, with switches or without
unfoldable pub next_byte : Bool → Bool → Condition → ℕ → ℕ → Bool
next_byte switching mark c low b =
    cond (owed switching mark c) (not (is_char c b) && eqb b 0x1a)
    (switching && switch_byte c b || step_byte c.pending c low b)

-- a string of these steps only, whole, each written cell at a higher position than the one written before
unfoldable pub in_order : Bool → Bool → Condition → ℕ → List ℕ → Bool
in_order switching mark c low [] = idle c.pending && not (owed switching mark c)
in_order switching mark c low (b ∷ bs) =
    next_byte switching mark c low b && in_order switching mark (step_of c b) (low_after c low b) bs

-- a reading-order string, all in mode 1
unfoldable pub reading_order : Bool → Condition → List ℕ → Bool
reading_order switching c bs = eqb c.mode 1 && in_order switching c.euro c 0 bs

-- 0Eh that clears (02, W4): nothing is half received, and no user character sits there
unfoldable pub clear_byte : Condition → ℕ → Bool
clear_byte c b = idle c.pending && not (is_char c b) && eqb b 0x0e

-- both kinds of start: a reading-order string, or 0Eh and then a reading-order string from the cleared condition
unfoldable pub either_start : Bool → Condition → List ℕ → Bool
either_start switching c [] = reading_order switching c []
either_start switching c (b ∷ bs) = reading_order switching c (b ∷ bs) ||
    (clear_byte c b && reading_order switching (step_of c b) bs)

-- a cell is wrong when its code differs or its font is not the selected one
unfoldable pub wrong : Condition → List ℕ → ℕ → Bool
wrong c wanted i = not (eqb (get_or c.codes i 0) (get_or wanted i 0) && eqb (get_or c.fonts i 0) c.font)
