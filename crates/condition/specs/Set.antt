-- The condition with a field changed. A whole condition is written here, at power-up (Condition.antt) and where it is read from
-- bytes (layout/specs/Layout.antt), and in no other definition: a new field is added at these three.
use Rattle.std.specs.Prelude.{ℕ, List, Bool, false, set}
use Rattle.users.specs.declared.Users.{Users}
use Rattle.index.specs.Index.{index_of}
use Rattle.condition.specs.declared.Condition.{Condition}
use Rattle.condition.specs.declared.Pending.{Pending}

abbrev pub with_cells : Condition → List ℕ → List ℕ → Condition
with_cells c x y =
    record {
      codes = x;
      fonts = y;
      cursor = c.cursor;
      mode = c.mode;
      scrolling = c.scrolling;
      shown = c.shown;
      font = c.font;
      link = c.link;
      euro = c.euro;
      luminance = c.luminance;
      speed = c.speed;
      flickerless = c.flickerless;
      users = c.users;
      index = c.index;
      pending = c.pending;
      held = c.held;
    }

abbrev pub with_cursor : Condition → ℕ → Condition
with_cursor c x =
    record {
      codes = c.codes;
      fonts = c.fonts;
      cursor = x;
      mode = c.mode;
      scrolling = c.scrolling;
      shown = c.shown;
      font = c.font;
      link = c.link;
      euro = c.euro;
      luminance = c.luminance;
      speed = c.speed;
      flickerless = c.flickerless;
      users = c.users;
      index = c.index;
      pending = c.pending;
      held = c.held;
    }

abbrev pub with_mode : Condition → ℕ → Condition
with_mode c x =
    record {
      codes = c.codes;
      fonts = c.fonts;
      cursor = c.cursor;
      mode = x;
      scrolling = c.scrolling;
      shown = c.shown;
      font = c.font;
      link = c.link;
      euro = c.euro;
      luminance = c.luminance;
      speed = c.speed;
      flickerless = c.flickerless;
      users = c.users;
      index = c.index;
      pending = c.pending;
      held = c.held;
    }

abbrev pub with_scrolling : Condition → Bool → Condition
with_scrolling c x =
    record {
      codes = c.codes;
      fonts = c.fonts;
      cursor = c.cursor;
      mode = c.mode;
      scrolling = x;
      shown = c.shown;
      font = c.font;
      link = c.link;
      euro = c.euro;
      luminance = c.luminance;
      speed = c.speed;
      flickerless = c.flickerless;
      users = c.users;
      index = c.index;
      pending = c.pending;
      held = c.held;
    }

abbrev pub with_shown : Condition → Bool → Condition
with_shown c x =
    record {
      codes = c.codes;
      fonts = c.fonts;
      cursor = c.cursor;
      mode = c.mode;
      scrolling = c.scrolling;
      shown = x;
      font = c.font;
      link = c.link;
      euro = c.euro;
      luminance = c.luminance;
      speed = c.speed;
      flickerless = c.flickerless;
      users = c.users;
      index = c.index;
      pending = c.pending;
      held = c.held;
    }

abbrev pub with_font : Condition → ℕ → Condition
with_font c x =
    record {
      codes = c.codes;
      fonts = c.fonts;
      cursor = c.cursor;
      mode = c.mode;
      scrolling = c.scrolling;
      shown = c.shown;
      font = x;
      link = c.link;
      euro = c.euro;
      luminance = c.luminance;
      speed = c.speed;
      flickerless = c.flickerless;
      users = c.users;
      index = c.index;
      pending = c.pending;
      held = c.held;
    }

abbrev pub with_euro : Condition → Bool → Condition
with_euro c x =
    record {
      codes = c.codes;
      fonts = c.fonts;
      cursor = c.cursor;
      mode = c.mode;
      scrolling = c.scrolling;
      shown = c.shown;
      font = c.font;
      link = c.link;
      euro = x;
      luminance = c.luminance;
      speed = c.speed;
      flickerless = c.flickerless;
      users = c.users;
      index = c.index;
      pending = c.pending;
      held = c.held;
    }

abbrev pub with_luminance : Condition → ℕ → Condition
with_luminance c x =
    record {
      codes = c.codes;
      fonts = c.fonts;
      cursor = c.cursor;
      mode = c.mode;
      scrolling = c.scrolling;
      shown = c.shown;
      font = c.font;
      link = c.link;
      euro = c.euro;
      luminance = x;
      speed = c.speed;
      flickerless = c.flickerless;
      users = c.users;
      index = c.index;
      pending = c.pending;
      held = c.held;
    }

abbrev pub with_speed : Condition → ℕ → Condition
with_speed c x =
    record {
      codes = c.codes;
      fonts = c.fonts;
      cursor = c.cursor;
      mode = c.mode;
      scrolling = c.scrolling;
      shown = c.shown;
      font = c.font;
      link = c.link;
      euro = c.euro;
      luminance = c.luminance;
      speed = x;
      flickerless = c.flickerless;
      users = c.users;
      index = c.index;
      pending = c.pending;
      held = c.held;
    }

abbrev pub with_flickerless : Condition → Bool → Condition
with_flickerless c x =
    record {
      codes = c.codes;
      fonts = c.fonts;
      cursor = c.cursor;
      mode = c.mode;
      scrolling = c.scrolling;
      shown = c.shown;
      font = c.font;
      link = c.link;
      euro = c.euro;
      luminance = c.luminance;
      speed = c.speed;
      flickerless = x;
      users = c.users;
      index = c.index;
      pending = c.pending;
      held = c.held;
    }

-- user characters, with their index (02, W9)
abbrev pub with_users : Condition → Users → Condition
with_users c x =
    record {
      codes = c.codes;
      fonts = c.fonts;
      cursor = c.cursor;
      mode = c.mode;
      scrolling = c.scrolling;
      shown = c.shown;
      font = c.font;
      link = c.link;
      euro = c.euro;
      luminance = c.luminance;
      speed = c.speed;
      flickerless = c.flickerless;
      users = x;
      index = index_of 256 x.bytes x.count;
      pending = c.pending;
      held = c.held;
    }

-- an index of any kind: a condition by value may have one (no byte gives it one that is not the list's)
abbrev pub with_index : Condition → List ℕ → Condition
with_index c x =
    record {
      codes = c.codes;
      fonts = c.fonts;
      cursor = c.cursor;
      mode = c.mode;
      scrolling = c.scrolling;
      shown = c.shown;
      font = c.font;
      link = c.link;
      euro = c.euro;
      luminance = c.luminance;
      speed = c.speed;
      flickerless = c.flickerless;
      users = c.users;
      index = x;
      pending = c.pending;
      held = c.held;
    }

abbrev pub with_pending : Condition → Pending → Condition
with_pending c x =
    record {
      codes = c.codes;
      fonts = c.fonts;
      cursor = c.cursor;
      mode = c.mode;
      scrolling = c.scrolling;
      shown = c.shown;
      font = c.font;
      link = c.link;
      euro = c.euro;
      luminance = c.luminance;
      speed = c.speed;
      flickerless = c.flickerless;
      users = c.users;
      index = c.index;
      pending = x;
      held = c.held;
    }

abbrev pub with_held : Condition → List ℕ → Condition
with_held c x =
    record {
      codes = c.codes;
      fonts = c.fonts;
      cursor = c.cursor;
      mode = c.mode;
      scrolling = c.scrolling;
      shown = c.shown;
      font = c.font;
      link = c.link;
      euro = c.euro;
      luminance = c.luminance;
      speed = c.speed;
      flickerless = c.flickerless;
      users = c.users;
      index = c.index;
      pending = c.pending;
      held = x;
    }

-- the cursor goes to x, and scroll-on ends
abbrev pub go_to : Condition → ℕ → Condition
go_to c x = with_scrolling (with_cursor c x) false

-- the code b in the cell at x, in the selected font
abbrev pub with_cell : Condition → ℕ → ℕ → Condition
with_cell c x b = with_cells c (set c.codes x b) (set c.fonts x c.font)

-- the condition with the index that its list gives, whatever its own is
abbrev pub reindexed : Condition → Condition
reindexed c = with_users c c.users
