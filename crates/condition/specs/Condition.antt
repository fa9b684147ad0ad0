-- The condition (document 01, The condition): positions, power-up, and what is well formed.
use Rattle.std.specs.Prelude.{ℕ, ◌%◌, Bool, true, false, cond, not, ◌&&◌, ◌||◌, replicate, eqb, ltb, leb}
use Rattle.std.specs.Prelude.{Result, Ok, Err}
use Rattle.refusals.specs.declared.Refusal.{Refusal}
use Rattle.refusals.specs.Refusals.{number_of}
use Rattle.row.specs.Row.{all_up_to}
use Rattle.users.specs.declared.Users.{Users}
use Rattle.users.specs.Users.{absent, places_formed, held_formed}
use Rattle.index.specs.Index.{index_agrees}
use Rattle.condition.specs.declared.Condition.{Condition}
use Rattle.condition.specs.declared.Pending.{Pending}
use Rattle.condition.specs.declared.Pending.TheVariants.{Nothing, Escape, Position, Luminance, Speed, UserCode, UserData}

-- positions 0 to 39: 0 to 19 top line, 20 to 39 bottom; column is position mod 20
abbrev pub column : Condition → ℕ
column c = c.cursor % 20

-- the half-received command is none
abbrev pub idle : Pending → Bool
idle Nothing = true
idle Escape = false
idle Position = false
idle Luminance = false
idle Speed = false
idle UserCode = false
idle (UserData code n) = false

-- how many bytes are held of a user character's data
abbrev pub held_of : Pending → ℕ
held_of Nothing = 0
held_of Escape = 0
held_of Position = 0
held_of Luminance = 0
held_of Speed = 0
held_of UserCode = 0
held_of (UserData code n) = n

-- Well formed: every value in range and every unused place 0 -----------------------------------------------------------

-- cursor 0 to 39, mode 1 to 3, selected font and default font 0 or 1, luminance 0 to 3, up to 16 user characters
unfoldable pub numbers_good : Condition → Bool
numbers_good c =
    ltb c.cursor 40 && leb 1 c.mode && leb c.mode 3 && leb c.font 1 && leb c.link 1 && leb c.luminance 3
    && leb c.users.count 16

-- scroll-on only in mode 3 at column 19
unfoldable pub scroll_good : Condition → Bool
scroll_good c = not c.scrolling || eqb c.mode 3 && eqb (column c) 19

-- if 1Bh is a user code, no command is half received
unfoldable pub escape_good : Condition → Bool
escape_good c = idle c.pending || absent 0x1b c.users.count c.users.bytes

-- fonts 0 or 1; user codes distinct, each fifth byte below 16, the other places 0; 0 to 4 bytes held, the others 0
abbrev pub formed_but_index : Condition → Bool
formed_but_index c =
    numbers_good c && scroll_good c && all_up_to 1 c.fonts && places_formed 16 c.users.count c.users.bytes
    && held_formed (held_of c.pending) c.held && escape_good c

-- the index agrees with the list (02, W9)
abbrev pub index_good : Condition → Bool
index_good c = index_agrees c.index c.users.bytes c.users.count

unfoldable pub well_formed : Condition → Bool
well_formed c = formed_but_index c && index_good c

-- Power-up ---------------------------------------------------------------------------------------------------------------

abbrev pub no_users : Users
no_users = record { bytes = replicate 96 0; count = 0 }

-- Power-up for a default font: all cells 20h in that font, selected and default font both that font, cursor 0, mode 1,
-- scroll-on, shown, Euro and flickerless off, luminance 3, speed 14h, no user characters, nothing half received
unfoldable pub power_up : ℕ → Condition
power_up f =
    record {
      codes = replicate 40 0x20;
      fonts = replicate 40 f;
      cursor = 0;
      mode = 1;
      scrolling = false;
      shown = false;
      font = f;
      link = f;
      euro = false;
      luminance = 3;
      speed = 0x14;
      flickerless = false;
      users = no_users;
      index = replicate 256 0;
      pending = Nothing;
      held = replicate 4 0;
    }

-- What a reading or a power-up answers: a refusal number, 0 when accepted, and a condition
pub record Outcome : Type 0 where
  pub refusal : ℕ
  pub condition : Condition

-- the code's answer in these words: a refused one returns power-up for font 0
abbrev pub outcome : Result Condition Refusal → Outcome
outcome (Ok c) = record { refusal = 0; condition = c }
outcome (Err refusal) = record { refusal = number_of refusal; condition = power_up 0 }

-- What power-up answers (Refusal numbers and their order): 3: font link above 1; a refused power-up returns power-up for font 0
unfoldable pub power_up_answer : ℕ → Outcome
power_up_answer font =
    cond (leb font 1) (record { refusal = 0; condition = power_up font }) (record { refusal = 3; condition = power_up 0 })
