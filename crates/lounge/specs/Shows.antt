-- What a cell shows (document 02, W8; source 001, 8.1.1 5 to 11).
use Rattle.std.specs.Prelude.{ℕ, Bool, false, Result, Ok, Err, cond, not, ◌&&◌, get_or, ltb, leb}
use Rattle.refusals.specs.declared.Refusal.{Refusal}
use Rattle.refusals.specs.Refusals.{number_of}
use Rattle.users.specs.Users.{is_user}
use Rattle.lounge.specs.declared.Lounge.{Lounge}
use Rattle.lounge.specs.declared.Shows.{Shows}
use Rattle.lounge.specs.declared.Shows.TheVariants.{Blank, User, BuiltIn}
use Rattle.lounge.specs.declared.Level.{Level}
use Rattle.lounge.specs.declared.Level.TheVariants.{A, B}
use Rattle.lounge.specs.declared.Seen as cell
use Rattle.lounge.specs.Condition.{users_of, well_formed}
use Rattle.lounge.specs.Marks.{bright, blink, underline, has_mark}

-- what is seen of a cell, with a refusal number, 0 when accepted
pub record Seen : Type 0 where
  pub refusal : ℕ
  pub shows : Shows
  pub level : Level
  pub blinking : Bool
  pub underlined : Bool

-- the user character of the cell's code, now; blank below 20h; else the built-in code
unfoldable pub shows_of : Lounge → ℕ → Shows
shows_of c code = cond (is_user (users_of c) code) (User code) (cond (ltb code 0x20) Blank (BuiltIn code))

-- while dimming is on, characters without the bright mark show at level B; the underline has its character's level
unfoldable pub level_of : Lounge → ℕ → Level
level_of c m = cond (c.dimming && not (has_mark bright m)) B A

-- what is seen of a code and its marks; the underline does not blink
unfoldable pub seen_of : Lounge → ℕ → ℕ → Seen
seen_of c code m =
    record {
      refusal = 0;
      shows = shows_of c code;
      level = level_of c m;
      blinking = has_mark blink m;
      underlined = has_mark underline m;
    }

-- refused: blank, level A, no blink, no underline
abbrev pub unseen_of : Seen
unseen_of = record { refusal = 3; shows = Blank; level = A; blinking = false; underlined = false }

-- what the code answers, in the paper's words
abbrev pub seen : Result cell.Seen Refusal → Seen
seen (Ok s) =
    record { refusal = 0; shows = s.shows; level = s.level; blinking = s.blinking; underlined = s.underlined }
seen (Err refusal) = record { refusal = number_of refusal; shows = Blank; level = A; blinking = false; underlined = false }

-- 3: a condition that is not well formed, or a position above 39
unfoldable pub view_answer : Lounge → ℕ → Seen
view_answer c p = cond (well_formed c && leb p 39) (seen_of c (get_or c.codes p 0) (get_or c.marks p 0)) unseen_of
