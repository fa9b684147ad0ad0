-- The dots of a user character (document 01, What a cell shows).
use Rattle.std.specs.Prelude.{ℕ, zero, suc, ◌+◌, ◌-◌, ◌/◌, ◌%◌, ◌^◌, [], ◌∷◌, cond, ◌&&◌, get_or, leb}
use Rattle.dots.specs.declared.Character.{Character}

abbrev pub byte_of : Character → ℕ → ℕ
byte_of d i = get_or (d.d1 ∷ d.d2 ∷ d.d3 ∷ d.d4 ∷ d.d5 ∷ []) i 0

-- dot Pk, k 1 to 35, is bit (k-1) mod 8 of byte (k-1)/8, low bit 0; there is no other dot
unfoldable pub dot_of : Character → ℕ → ℕ
dot_of d k = cond (leb 1 k && leb k 35) (byte_of d ((k - 1) / 8) / 2 ^ ((k - 1) % 8) % 2) 0

-- underline is bit 3 of the fifth
unfoldable pub underline_of : Character → ℕ
underline_of d = d.d5 / 8 % 2

-- how many of the dots 1 to n are lit
unfoldable pub lit_up_to : Character → ℕ → ℕ
lit_up_to d zero = 0
lit_up_to d (suc n) = lit_up_to d n + dot_of d (suc n)

-- how many of the 35 dots a user character lights, underline not counted
unfoldable pub lit_of : Character → ℕ
lit_of d = lit_up_to d 35
