-- What a pair does (document 02, W8; source 001, 8.1 Data write, 8.2 Command write). 02's words decide where 001 says otherwise.
use Rattle.std.specs.Prelude.{ℕ, ◌+◌, ◌%◌, List, [], ◌∷◌, Bool, true, false, cond, ◌&&◌, ◌||◌, set, replicate, eqb, ltb, leb}
use Rattle.row.specs.Row.{line_start, scrolled, shifted, cleared_line}
use Rattle.users.specs.Users.{is_user, define_of}
use Rattle.lounge.specs.declared.Lounge.{Lounge}
use Rattle.lounge.specs.declared.Pending.{Pending}
use Rattle.lounge.specs.declared.Pending.TheVariants.{Nothing, Escape, UserData, First, Second}
use Rattle.lounge.specs.Condition.{column, users_of}
use Rattle.lounge.specs.Marks.{bright, blink, underline, mark_of, is_pair, marked_area, cancelled}
use Rattle.lounge.specs.Set.{with_cells, with_marks, with_cursor, with_mode, with_scrolling, with_dimming, with_last, with_users}
use Rattle.lounge.specs.Set.{with_pending, with_held, with_cell, go_to}

-- the bottom line comes up, and the bottom line is cleared (001, 8.1.1 1). Marks move with their characters; a cleared cell has
-- none
unfoldable pub scroll_of : Lounge → Lounge
scroll_of c = with_cells c (scrolled 0x20 c.codes) (scrolled 0 c.marks)

-- 09h goes right one; from the top right to 20; at the bottom right it scrolls in both modes, and the cursor goes to 20 (001: the
-- left most position of the bottom line). At column 19 it ends scroll-on
unfoldable pub tab_of : Lounge → Lounge
tab_of c =
    cond (ltb (column c) 19) (with_cursor c (c.cursor + 1))
    (cond (eqb c.cursor 19) (go_to c 20)
    (go_to (scroll_of c) 20))

-- 0Dh: the left most position of the same line; it ends scroll-on
unfoldable pub return_of : Lounge → Lounge
return_of c = go_to c (line_start c.cursor)

-- 11h, 12h: DC1, DC2; they end scroll-on
abbrev pub mode_of : Lounge → ℕ → Lounge
mode_of c m = with_scrolling (with_mode c m) false

-- a DC2 write at column 19. Scroll-on as on the first device: with it off: write, stay, set scroll-on; with it on: the cursor's own
-- line shifts left one, with its marks, and the character goes to column 19
unfoldable pub push_of : Lounge → ℕ → Lounge
push_of c b =
    cond c.scrolling
    (with_cells c (shifted (line_start c.cursor) b c.codes) (shifted (line_start c.cursor) 0 c.marks))
    (with_scrolling (with_cell c c.cursor b) true)

-- after a write the cursor goes right one, from the top right to 20, from the bottom right to the top left
unfoldable pub after_write : ℕ → ℕ
after_write x = cond (eqb x 39) 0 (x + 1)

-- a character is written
unfoldable pub write_of : Lounge → ℕ → Lounge
write_of c b =
    cond (eqb c.mode 2 && eqb (column c) 19) (push_of c b)
    (with_cursor (with_cell c c.cursor b) (after_write c.cursor))

-- a byte is written as a character: a user code, below 20h too (001, 8.1.1 5), or a code from 20h up
unfoldable pub is_char : Lounge → ℕ → Bool
is_char c b = is_user (users_of c) b || leb 0x20 b

-- 18h: no character is bright, and all show at level A
abbrev pub undim_of : Lounge → Lounge
undim_of c = with_dimming (with_marks c (cancelled bright c.marks)) false

-- 17h to 1Dh: area codes, their cancels, and ESC; codes with no meaning are ignored
unfoldable pub marking_of : Lounge → ℕ → Lounge
marking_of c b =
    cond (eqb b 0x17) (with_pending c (First 0x17))
    (cond (eqb b 0x18) (undim_of c)
    (cond (eqb b 0x19) (with_pending c (First 0x19))
    (cond (eqb b 0x1a) (with_marks c (cancelled blink c.marks))
    (cond (eqb b 0x1b) (with_pending c Escape)
    (cond (eqb b 0x1c) (with_pending c (First 0x1c))
    (cond (eqb b 0x1d) (with_marks c (cancelled underline c.marks))
    c))))))

-- 09h to 12h: the cursor's moves and the modes
unfoldable pub control_of : Lounge → ℕ → Lounge
control_of c b =
    cond (eqb b 0x09) (tab_of c)
    (cond (eqb b 0x0d) (return_of c)
    (cond (eqb b 0x11) (mode_of c 1)
    (cond (eqb b 0x12) (mode_of c 2)
    (marking_of c b))))

-- an accepted 17h pair also turns dimming on
unfoldable pub dimmed_by : ℕ → Lounge → Lounge
dimmed_by area c = cond (eqb area 0x17) (with_dimming c true) c

-- the second position of an area code: the characters from the first to it get the mark; a pair that is dropped does nothing
unfoldable pub area_of : Lounge → ℕ → ℕ → ℕ → Lounge
area_of c area first second =
    cond (is_pair first second)
    (dimmed_by area (with_marks c (marked_area (mark_of area) first second c.marks)))
    c

-- the five data bytes: d1 to d4 are held, with d5 the user character is defined; the top five bits of d5 are dropped. A ninth
-- replaces the oldest; a code defined again becomes the youngest
unfoldable pub data_of : Lounge → ℕ → ℕ → ℕ → Lounge
data_of c code n d =
    cond (ltb n 4)
    (with_pending (with_held c (set c.held n d)) (UserData code (n + 1)))
    (with_pending (with_held (with_users c (define_of (users_of c) code c.held (d % 8))) (replicate 4 0)) Nothing)

-- a data write: a byte of what is half received, else a character or a control code. ESC is followed directly by the code
unfoldable pub written_at : Pending → Lounge → ℕ → Lounge
written_at Nothing c b = cond (is_char c b) (write_of c b) (control_of c b)
written_at Escape c b = with_pending c (UserData b 0)
written_at (UserData code n) c b = data_of c code n b
written_at (First area) c b = with_pending c (Second area b)
written_at (Second area first) c b = area_of (with_pending c Nothing) area first b

abbrev pub written_of : Lounge → ℕ → Lounge
written_of c b = written_at c.pending c b

-- 40h, 41h: software reset of a line (001, 8.2): it is filled with SP, and the cursor goes to its left most position if it is in
-- that line, which ends scroll-on
unfoldable pub home_in : ℕ → Lounge → Lounge
home_in start c = cond (eqb (line_start c.cursor) start) (go_to c start) c

unfoldable pub line_reset_of : Lounge → ℕ → Lounge
line_reset_of c start = home_in start (with_cells c (cleared_line start 0x20 c.codes) (cleared_line start 0 c.marks))

-- a command write acts at once, and leaves what is half received waiting. 00h-27h: the cursor's position, and scroll-on ends; other
-- commands are ignored
unfoldable pub command_of : Lounge → ℕ → Lounge
command_of c b =
    cond (leb b 0x27) (go_to c b)
    (cond (eqb b 0x40) (line_reset_of c 0)
    (cond (eqb b 0x41) (line_reset_of c 20)
    c))

-- a pair: 0 for a data or 1 for a command write, and then the byte written. Every byte written is the readable last byte (001, 8.3)
unfoldable pub step_of : Lounge → ℕ → ℕ → Lounge
step_of c kind b = cond (eqb kind 1) (command_of (with_last c b) b) (written_of (with_last c b) b)

-- what pairs do, in turn
unfoldable pub run_of : Lounge → List ℕ → Lounge
run_of c [] = c
run_of c (kind ∷ []) = c
run_of c (kind ∷ b ∷ pairs) = run_of (step_of c kind b) pairs
