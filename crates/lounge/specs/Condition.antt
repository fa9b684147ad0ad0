-- The condition of the lounge module, the CU20026MCPB (document 02, W8; source 001): reset, and what is well formed.
use Rattle.std.specs.Prelude.{ℕ, ◌%◌, Bool, true, false, not, ◌&&◌, ◌||◌, replicate, eqb, ltb, leb}
use Rattle.row.specs.Row.{all_up_to}
use Rattle.users.specs.declared.Users.{Users}
use Rattle.users.specs.Users.{users_in, users_formed, held_formed}
use Rattle.lounge.specs.declared.Lounge.{Lounge}
use Rattle.lounge.specs.declared.Pending.{Pending}
use Rattle.lounge.specs.declared.Pending.TheVariants.{Nothing, Escape, UserData, First, Second}

-- positions 0 to 39: 00h-13h the first line, 14h-27h the second (001, 8.1.1 6); column is position mod 20
abbrev pub column : Lounge → ℕ
column c = c.cursor % 20

-- the user characters, in the form of the first device's: places of six bytes, the oldest first
abbrev pub users_of : Lounge → Users
users_of c = users_in c.users c.count

-- how many bytes are held of a user character's data
abbrev pub held_of : Pending → ℕ
held_of Nothing = 0
held_of Escape = 0
held_of (UserData code n) = n
held_of (First area) = 0
held_of (Second area first) = 0

-- Well formed (02): every value in range, every unused place 0, no user code twice, scroll-on only in DC2 at column 19 -----------

-- the area codes are 17h, 19h and 1Ch
unfoldable pub is_area : ℕ → Bool
is_area b = eqb b 0x17 || eqb b 0x19 || eqb b 0x1c

-- a half-received area code is one of them; its first position is any byte, because a pair is dropped whole
abbrev pub area_formed : Pending → Bool
area_formed Nothing = true
area_formed Escape = true
area_formed (UserData code n) = true
area_formed (First area) = is_area area
area_formed (Second area first) = is_area area

-- cursor 0 to 39, mode 1 or 2 (DC1, DC2)
unfoldable pub numbers_formed : Lounge → Bool
numbers_formed c = ltb c.cursor 40 && leb 1 c.mode && leb c.mode 2

-- scroll-on only in DC2 at column 19
unfoldable pub scroll_formed : Lounge → Bool
scroll_formed c = not c.scrolling || eqb c.mode 2 && eqb (column c) 19

-- marks 0 to 7; no more user characters than there are places, which are eight, their codes distinct, each fifth byte below 8 (its
-- top five bits are dropped), the other places 0; 0 to 4 bytes held, the others 0
unfoldable pub well_formed : Lounge → Bool
well_formed c =
    numbers_formed c && scroll_formed c && all_up_to 7 c.marks && users_formed 8 c.users c.count
    && held_formed (held_of c.pending) c.held && area_formed c.pending

-- Reset (001, 8.4) ------------------------------------------------------------------------------------------------------------

-- 1. all character positions are SP (20h). 2. the cursor is at the left most position of the top line. 3. DC1 mode. 4. no user
-- characters. 5. level A: nothing is dimmed. 02: the readable last byte is 00h. Not named there (DECISIONS): no marks, nothing half
-- received
unfoldable pub reset_of : Lounge
reset_of =
    record {
      codes = replicate 40 0x20;
      marks = replicate 40 0;
      cursor = 0;
      mode = 1;
      scrolling = false;
      dimming = false;
      last = 0;
      users = replicate 48 0;
      count = 0;
      pending = Nothing;
      held = replicate 4 0;
    }
