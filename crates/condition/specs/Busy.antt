-- Busy time, in microseconds (document 01, Busy time and the tally; document 02, W2; source 000, section 6.1). A byte has two
-- figures, the quick one and the worst one.
use Rattle.std.specs.Prelude.{ℕ, ◌+◌, List, [], ◌∷◌, Bool, cond, ◌&&◌, ◌||◌, eqb, ltb, leb}
use Rattle.condition.specs.declared.Condition.{Condition}
use Rattle.condition.specs.declared.Figures.{Figures}
use Rattle.condition.specs.declared.Pending.{Pending}
use Rattle.condition.specs.declared.Pending.TheVariants.{Nothing, Escape, Position, Luminance, Speed, UserCode, UserData}
use Rattle.laws.specs.Flags.{flag}
use Rattle.condition.specs.Condition.{column}
use Rattle.condition.specs.Bytes.{is_char, step_of}

-- the display scrolls when the cursor goes right: from 39 in mode 2
unfoldable pub right_scrolls : Condition → Bool
right_scrolls c = eqb c.mode 2 && eqb c.cursor 39

-- the display scrolls at 0Ah: from the bottom line in mode 2
unfoldable pub down_scrolls : Condition → Bool
down_scrolls c = eqb c.mode 2 && leb 20 c.cursor

-- the line shifts at a write: in mode 3 at column 19 with scroll-on on
unfoldable pub line_shifts : Condition → Bool
line_shifts c = eqb c.mode 3 && eqb (column c) 19 && c.scrolling

-- a write 7, or 20 if the display or line shifts
unfoldable pub write_busy : Condition → ℕ
write_busy c = cond (right_scrolls c || line_shifts c) 20 7

-- 09h or 0Ah that scrolls 20; 0Eh, 0Fh 65; every other 6
unfoldable pub control_busy : Condition → ℕ → ℕ
control_busy c b =
    cond (eqb b 0x09) (cond (right_scrolls c) 20 6)
    (cond (eqb b 0x0a) (cond (down_scrolls c) 20 6)
    (cond (eqb b 0x0e) 65
    (cond (eqb b 0x0f) 65 6)))

-- after ESC: 43h, 48h, 4Ch, 54h 4, 49h 40, 53h 6, other 6
unfoldable pub escape_busy : ℕ → ℕ
escape_busy b =
    cond (eqb b 0x43) 4
    (cond (eqb b 0x48) 4
    (cond (eqb b 0x49) 40
    (cond (eqb b 0x4c) 4
    (cond (eqb b 0x54) 4 6))))

-- the quick figure, by what is half received: position and luminance 4; speed 6; user code 6, d1-d4 6, d5 15
unfoldable pub quick_at : Pending → Condition → ℕ → ℕ
quick_at Nothing c b = cond (is_char c b) (write_busy c) (control_busy c b)
quick_at Escape c b = escape_busy b
quick_at Position c b = 4
quick_at Luminance c b = 4
quick_at Speed c b = 6
quick_at UserCode c b = 6
quick_at (UserData code n) c b = cond (ltb n 4) 6 15

-- the quick one and the worst one, which is 200 higher when flickerless was already on (source 000: up to 200us longer)
abbrev pub figures_by : ℕ → Bool → Figures
figures_by quick on = record { quick = quick; worst = cond on (quick + 200) quick }

-- a byte's busy figures, by the condition before it
abbrev pub figures_of : Condition → ℕ → Figures
figures_of c b = figures_by (quick_at c.pending c b) c.flickerless

-- what a run's bytes come to, where each is counted by the condition before it
unfoldable pub total_of : (Condition → ℕ → ℕ) → Condition → List ℕ → ℕ
total_of count c [] = 0
total_of count c (b ∷ bs) = count c b + total_of count (step_of c b) bs

-- what is counted for a byte: its quick figure, its worst figure, and 1 where it is received while flickerless is already on
abbrev pub quick_figure : Condition → ℕ → ℕ
quick_figure c b = (figures_of c b).quick

abbrev pub worst_figure : Condition → ℕ → ℕ
worst_figure c b = (figures_of c b).worst

abbrev pub while_on : Condition → ℕ → ℕ
while_on c b = flag c.flickerless

-- the busy time of a run: the sum of each byte's quick figure
abbrev pub busy_of : Condition → List ℕ → ℕ
busy_of c bs = total_of quick_figure c bs

-- its worst busy time: the sum of each byte's worst figure
abbrev pub worst_of : Condition → List ℕ → ℕ
worst_of c bs = total_of worst_figure c bs

-- bytes received while flickerless was already on
abbrev pub flickerless_of : Condition → List ℕ → ℕ
flickerless_of c bs = total_of while_on c bs
