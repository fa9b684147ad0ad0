-- What the parts of a command make of a condition, for the functions that work in place.
use Rattle.std.specs.Prelude.{ℕ, ◌≡◌, List, Bool, false, eqb, leb, length, set, replicate}
use Rattle.row.specs.Row.{line_start, shifted}
use Rattle.users.specs.Users.{define_of, users_in}
use Rattle.index.specs.Index.{index_of}
use Rattle.condition.specs.declared.Condition.{Condition}
use Rattle.condition.specs.declared.Pending.{Pending}
use Rattle.condition.specs.declared.Pending.TheVariants.{Nothing, Escape, Position, Luminance, Speed, UserCode, UserData}
use Rattle.condition.specs.declared.Figures.{Figures}
use Rattle.inplace.specs.declared.Spent.{Spent}
use Rattle.condition.specs.Condition.{power_up}
use Rattle.condition.specs.Set.{with_cells, with_users, with_held}
use Rattle.condition.specs.Bytes.{step_of, run_of}
use Rattle.condition.specs.Busy.{figures_of, busy_of, flickerless_of, worst_of}

-- the cursor's line shifts left one, and the code b comes to its column 19
abbrev pub shift_of : Condition → ℕ → Condition
shift_of c b = with_cells c (shifted (line_start c.cursor) b c.codes) (shifted (line_start c.cursor) c.font c.fonts)

-- every cell is 20h in a font
abbrev pub blank_of : Condition → ℕ → Condition
blank_of c f = with_cells c (replicate 40 0x20) (replicate 40 f)

-- the bytes of the user characters
abbrev pub with_user_bytes : Condition → List ℕ → Condition
with_user_bytes c x = with_users c (users_in x c.users.count)

-- the bytes held, with the fifth, are a user character
abbrev pub defined_in : Condition → ℕ → ℕ → Condition
defined_in c code last = with_users c (define_of c.users code c.held last)

-- the byte d is held at the place n
abbrev pub held_in : Condition → ℕ → ℕ → Condition
held_in c n d = with_held c (set c.held n d)

abbrev pub released_in : Condition → Condition
released_in c = with_held c (replicate 4 0)

-- power-up for a font, but for the cells and the bytes of the user characters
abbrev pub reset_in : Condition → ℕ → Condition
reset_in c f = with_users (with_cells (power_up f) c.codes c.fonts) (users_in c.users.bytes 0)

-- lent entries, as many as there are, are those of the condition's list
abbrev pub LentIndex : List ℕ → Condition → Type 0
LentIndex x c = x ≡ index_of (length x) c.users.bytes c.users.count

-- the byte may change the user characters: Initialise, and the fifth byte of one
abbrev pub alters_users : Pending → ℕ → Bool
alters_users Nothing b = false
alters_users Escape b = eqb b 0x49
alters_users Position b = false
alters_users Luminance b = false
alters_users Speed b = false
alters_users UserCode b = false
alters_users (UserData code n) b = leb 4 n

-- a byte carried out: the condition after it, and its busy figures
pub record Stepped (c : Condition) (b : ℕ) (after : Condition) (figures : Figures) : Type 0 where
  pub leaves : after ≡ step_of c b
  pub takes : figures ≡ figures_of c b

-- what bytes spend: their busy time, how many come while flickerless is on, and their worst busy time
abbrev pub spent_of : Condition → List ℕ → Spent
spent_of c bs = record { busy = busy_of c bs; flickerless = flickerless_of c bs; worst = worst_of c bs }

-- bytes carried out in turn: the condition after them, and what they spend
pub record Carried (c : Condition) (bs : List ℕ) (after : Condition) (spent : Spent) : Type 0 where
  pub leaves : after ≡ run_of c bs
  pub spends : spent ≡ spent_of c bs
