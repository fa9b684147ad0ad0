-- What a byte does (document 01; source 000, section 6.1).
use Rattle.std.specs.Prelude.{ℕ, ◌+◌, ◌-◌, ◌/◌, ◌%◌, List, [], ◌∷◌, Bool, true, false, cond, ◌&&◌, ◌||◌, set, replicate, eqb, ltb}
use Rattle.std.specs.Prelude.{leb}
use Rattle.row.specs.Row.{line_start, scrolled, shifted}
use Rattle.users.specs.Users.{is_user, define_of}
use Rattle.condition.specs.declared.Condition.{Condition}
use Rattle.condition.specs.declared.Pending.{Pending}
use Rattle.condition.specs.declared.Pending.TheVariants.{Nothing, Escape, Position, Luminance, Speed, UserCode, UserData}
use Rattle.condition.specs.Condition.{column, power_up}
use Rattle.condition.specs.Set.{with_cells, with_cell, with_cursor, with_mode, with_scrolling, with_shown, with_font, with_euro}
use Rattle.condition.specs.Set.{with_luminance, with_speed, with_flickerless, with_users, with_pending, with_held, go_to}

-- Scroll: top takes bottom, bottom is cleared. A cleared cell is 20h in the selected font.
unfoldable pub scroll_of : Condition → Condition
scroll_of c = with_cells c (scrolled 0x20 c.codes) (scrolled c.font c.fonts)

-- 08h: left one; stays at column 0 of either line
unfoldable pub left_of : Condition → Condition
left_of c = cond (eqb (column c) 0) (go_to c c.cursor) (go_to c (c.cursor - 1))

-- 09h: column below 19, right one; 19 goes to 20 in modes 1 and 2; 39 goes to 0 in mode 1; in mode 2 the display scrolls and
-- the cursor goes to 20. In mode 3 it stays at column 19.
unfoldable pub right_of : Condition → Condition
right_of c =
    cond (ltb (column c) 19) (with_cursor c (c.cursor + 1))
    (cond (eqb c.mode 3) c
    (cond (eqb c.cursor 19) (with_cursor c 20)
    (cond (eqb c.mode 1) (with_cursor c 0)
    (with_cursor (scroll_of c) 20))))

-- 0Ah: 0-19 goes down 20. From the bottom: mode 1, up 20; mode 2, scroll, cursor stays; mode 3, nothing moves.
unfoldable pub down_of : Condition → Condition
down_of c =
    cond (ltb c.cursor 20) (go_to c (c.cursor + 20))
    (cond (eqb c.mode 1) (go_to c (c.cursor - 20))
    (cond (eqb c.mode 2) (with_scrolling (scroll_of c) false)
    (with_scrolling c false)))

-- 0Ch: cursor 0, cells kept
abbrev pub home_of : Condition → Condition
home_of c = go_to c 0

-- 0Dh: column 0
unfoldable pub return_of : Condition → Condition
return_of c = go_to c (line_start c.cursor)

-- 0Eh and 0Fh: clear all cells, cursor kept
unfoldable pub clear_of : Condition → Condition
clear_of c = with_scrolling (with_cells c (replicate 40 0x20) (replicate 40 c.font)) false

-- 11h, 12h, 13h: mode 1, 2, 3
abbrev pub mode_of : Condition → ℕ → Condition
mode_of c m = with_scrolling (with_mode c m) false

-- 18h: International, Euro off
abbrev pub international_of : Condition → Condition
international_of c = with_euro (with_font c 0) false

-- in mode 3 at 19 with scroll-on off: write, stay, set scroll-on; with it on: that line shifts left one and the character
-- goes to column 19
unfoldable pub push_of : Condition → ℕ → Condition
push_of c b =
    cond c.scrolling
    (with_cells c (shifted (line_start c.cursor) b c.codes) (shifted (line_start c.cursor) c.font c.fonts))
    (with_scrolling (with_cell c c.cursor b) true)

-- 20h-FFh: write, then as 09h in modes 1 and 2, and in mode 3 below column 19
unfoldable pub write_of : Condition → ℕ → Condition
write_of c b = cond (eqb c.mode 3 && eqb (column c) 19) (push_of c b) (right_of (with_cell c c.cursor b))

-- a byte is written as a character: a user code, below 20h too, or 20h-FFh
unfoldable pub is_char : Condition → ℕ → Bool
is_char c b = is_user c.users b || leb 0x20 b

-- any other byte. 18h to 1Bh: the font, Euro, and ESC; those that are not named are ignored: 00h-07h, 0Bh, 10h, 1Ch-1Fh
abbrev pub select_of : Condition → ℕ → Condition
select_of c b =
    cond (eqb b 0x18) (international_of c)
    (cond (eqb b 0x19) (with_font c 1)
    (cond (eqb b 0x1a) (with_euro c true)
    (cond (eqb b 0x1b) (with_pending c Escape)
    c)))

-- 11h to 17h: the mode, and the cursor shown or not
abbrev pub setting_of : Condition → ℕ → Condition
setting_of c b =
    cond (eqb b 0x11) (mode_of c 1)
    (cond (eqb b 0x12) (mode_of c 2)
    (cond (eqb b 0x13) (mode_of c 3)
    (cond (eqb b 0x14) (with_shown c false)
    (cond (eqb b 0x15) (with_shown c true)
    (cond (eqb b 0x16) (with_shown c false)
    (cond (eqb b 0x17) (with_shown c false)
    (select_of c b)))))))

-- 08h to 0Fh: the cursor's moves, and clearing
unfoldable pub control_of : Condition → ℕ → Condition
control_of c b =
    cond (eqb b 0x08) (left_of c)
    (cond (eqb b 0x09) (right_of c)
    (cond (eqb b 0x0a) (down_of c)
    (cond (eqb b 0x0c) (home_of c)
    (cond (eqb b 0x0d) (return_of c)
    (cond (eqb b 0x0e) (clear_of c)
    (cond (eqb b 0x0f) (clear_of c)
    (setting_of c b)))))))

-- the byte after 1Bh: 43h, 48h, 49h, 4Ch, 53h or 54h; any other is dropped and ends the command.
-- 49h: power-up for the default font. 53h: flickerless on.
unfoldable pub escape_of : Condition → ℕ → Condition
escape_of c b =
    cond (eqb b 0x43) (with_pending c UserCode)
    (cond (eqb b 0x48) (with_pending c Position)
    (cond (eqb b 0x49) (power_up c.link)
    (cond (eqb b 0x4c) (with_pending c Luminance)
    (cond (eqb b 0x53) (with_flickerless (with_pending c Nothing) true)
    (cond (eqb b 0x54) (with_pending c Speed)
    (with_pending c Nothing))))))

-- 48h p: cursor p if p is at most 27h, else ignored
unfoldable pub position_of : Condition → ℕ → Condition
position_of c p = cond (leb p 0x27) (go_to (with_pending c Nothing) p) (with_pending c Nothing)

-- 4Ch n: luminance n / 64 rounded down
abbrev pub luminance_of : Condition → ℕ → Condition
luminance_of c n = with_luminance (with_pending c Nothing) (n / 64)

-- 54h n: speed n
abbrev pub speed_of : Condition → ℕ → Condition
speed_of c n = with_speed (with_pending c Nothing) n

-- 43h code d1..d5: d1 to d4 are held, with d5 the user character is defined; the top four bits of d5 are dropped
unfoldable pub data_of : Condition → ℕ → ℕ → ℕ → Condition
data_of c code n d =
    cond (ltb n 4)
    (with_pending (with_held c (set c.held n d)) (UserData code (n + 1)))
    (with_pending (with_held (with_users c (define_of c.users code c.held (d % 16))) (replicate 4 0)) Nothing)

-- A byte that continues a half-received command is always its parameter. Otherwise a user code is written as a character.
unfoldable pub step_at : Pending → Condition → ℕ → Condition
step_at Nothing c b = cond (is_char c b) (write_of c b) (control_of c b)
step_at Escape c b = escape_of c b
step_at Position c b = position_of c b
step_at Luminance c b = luminance_of c b
step_at Speed c b = speed_of c b
step_at UserCode c b = with_pending c (UserData b 0)
step_at (UserData code n) c b = data_of c code n b

-- what a byte does
abbrev pub step_of : Condition → ℕ → Condition
step_of c b = step_at c.pending c b

-- what bytes do, in turn
unfoldable pub run_of : Condition → List ℕ → Condition
run_of c [] = c
run_of c (b ∷ bs) = run_of (step_of c b) bs
