-- What a cell shows (document 01).
use Rattle.std.specs.Prelude.{ℕ, Bool, true, false, cond, ◌&&◌, get_or, eqb, ltb}
use Rattle.users.specs.Users.{is_user}
use Rattle.condition.specs.declared.Condition.{Condition}
use Rattle.glass.specs.declared.Shows.{Shows}
use Rattle.glass.specs.declared.Shows.TheVariants.{Blank, User, Euro, BuiltIn}

-- Euro or blank for ADh in font 0
abbrev pub euro_or : Bool → Shows
euro_or true = Euro
euro_or false = Blank

-- First that fits: user character of the cell's code, now; blank below 20h; Euro or blank for ADh in font 0; else the
-- built-in code and font
unfoldable pub shows_code : Condition → ℕ → ℕ → Shows
shows_code c code font =
    cond (is_user c.users code) (User code)
    (cond (ltb code 0x20) Blank
    (cond (eqb code 0xad && eqb font 0) (euro_or c.euro)
    (BuiltIn code font)))

-- what the cell at a position shows
unfoldable pub shows_of : Condition → ℕ → Shows
shows_of c p = shows_code c (get_or c.codes p 0) (get_or c.fonts p 0)
