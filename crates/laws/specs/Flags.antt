-- Flags as numbers, as the bytes of a condition have them.
use Rattle.std.specs.Prelude.{ℕ, Bool, true, false}

-- a flag as a number, 0 or 1
abbrev pub flag : Bool → ℕ
flag true = 1
flag false = 0
