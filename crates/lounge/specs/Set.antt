-- The condition of the lounge module with a field changed. A whole condition is written here, at reset (Condition.antt) and where
-- it is read from a head and three rows (Head.antt; proofs/Back.antt: whole-in, head-back), and in no other definition: a new
-- field is added at these.
use Rattle.std.specs.Prelude.{ℕ, List, Bool, false, set}
use Rattle.users.specs.declared.Users.{Users}
use Rattle.lounge.specs.declared.Lounge.{Lounge}
use Rattle.lounge.specs.declared.Pending.{Pending}

abbrev pub with_cells : Lounge → List ℕ → List ℕ → Lounge
with_cells c x y =
    record {
      codes = x;
      marks = y;
      cursor = c.cursor;
      mode = c.mode;
      scrolling = c.scrolling;
      dimming = c.dimming;
      last = c.last;
      users = c.users;
      count = c.count;
      pending = c.pending;
      held = c.held;
    }

abbrev pub with_marks : Lounge → List ℕ → Lounge
with_marks c x =
    record {
      codes = c.codes;
      marks = x;
      cursor = c.cursor;
      mode = c.mode;
      scrolling = c.scrolling;
      dimming = c.dimming;
      last = c.last;
      users = c.users;
      count = c.count;
      pending = c.pending;
      held = c.held;
    }

abbrev pub with_cursor : Lounge → ℕ → Lounge
with_cursor c x =
    record {
      codes = c.codes;
      marks = c.marks;
      cursor = x;
      mode = c.mode;
      scrolling = c.scrolling;
      dimming = c.dimming;
      last = c.last;
      users = c.users;
      count = c.count;
      pending = c.pending;
      held = c.held;
    }

abbrev pub with_mode : Lounge → ℕ → Lounge
with_mode c x =
    record {
      codes = c.codes;
      marks = c.marks;
      cursor = c.cursor;
      mode = x;
      scrolling = c.scrolling;
      dimming = c.dimming;
      last = c.last;
      users = c.users;
      count = c.count;
      pending = c.pending;
      held = c.held;
    }

abbrev pub with_scrolling : Lounge → Bool → Lounge
with_scrolling c x =
    record {
      codes = c.codes;
      marks = c.marks;
      cursor = c.cursor;
      mode = c.mode;
      scrolling = x;
      dimming = c.dimming;
      last = c.last;
      users = c.users;
      count = c.count;
      pending = c.pending;
      held = c.held;
    }

abbrev pub with_dimming : Lounge → Bool → Lounge
with_dimming c x =
    record {
      codes = c.codes;
      marks = c.marks;
      cursor = c.cursor;
      mode = c.mode;
      scrolling = c.scrolling;
      dimming = x;
      last = c.last;
      users = c.users;
      count = c.count;
      pending = c.pending;
      held = c.held;
    }

abbrev pub with_last : Lounge → ℕ → Lounge
with_last c x =
    record {
      codes = c.codes;
      marks = c.marks;
      cursor = c.cursor;
      mode = c.mode;
      scrolling = c.scrolling;
      dimming = c.dimming;
      last = x;
      users = c.users;
      count = c.count;
      pending = c.pending;
      held = c.held;
    }

abbrev pub with_users : Lounge → Users → Lounge
with_users c u =
    record {
      codes = c.codes;
      marks = c.marks;
      cursor = c.cursor;
      mode = c.mode;
      scrolling = c.scrolling;
      dimming = c.dimming;
      last = c.last;
      users = u.bytes;
      count = u.count;
      pending = c.pending;
      held = c.held;
    }

abbrev pub with_pending : Lounge → Pending → Lounge
with_pending c x =
    record {
      codes = c.codes;
      marks = c.marks;
      cursor = c.cursor;
      mode = c.mode;
      scrolling = c.scrolling;
      dimming = c.dimming;
      last = c.last;
      users = c.users;
      count = c.count;
      pending = x;
      held = c.held;
    }

abbrev pub with_held : Lounge → List ℕ → Lounge
with_held c x =
    record {
      codes = c.codes;
      marks = c.marks;
      cursor = c.cursor;
      mode = c.mode;
      scrolling = c.scrolling;
      dimming = c.dimming;
      last = c.last;
      users = c.users;
      count = c.count;
      pending = c.pending;
      held = x;
    }

-- a new character at a place: it has no mark
abbrev pub with_cell : Lounge → ℕ → ℕ → Lounge
with_cell c at b = with_cells c (set c.codes at b) (set c.marks at 0)

-- the cursor goes to a place, and scroll-on ends
abbrev pub go_to : Lounge → ℕ → Lounge
go_to c x = with_scrolling (with_cursor c x) false
