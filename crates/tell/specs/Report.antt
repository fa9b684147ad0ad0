-- What `tell` prints: what each cell shows, each user character with its dots, and the tally.
use Rattle.std.specs.Prelude.{ℕ, ◌+◌, ◌*◌, min, List, ◌++◌, get_or}
use Rattle.condition.specs.declared.Condition.{Condition}
use Rattle.glass.specs.declared.Shows.{Shows}
use Rattle.glass.specs.declared.Shows.TheVariants.{Blank, User, Euro, BuiltIn}
use Rattle.glass.specs.Answers.{view_answer, dot_answer, underline_answer, lit_answer}
use Rattle.interpreter.specs.Run.{Ran}
use Rattle.lines.specs.Lines.{text, each, hex_of, decimal_of, numbered, new_line, print_of}

-- what a cell shows: ` blank`, ` user HH`, ` euro` or ` code HH font F`
unfoldable pub shows_text : Shows → List ℕ
shows_text Blank = text " blank"
shows_text (User x) = text " user " ++ hex_of x
shows_text Euro = text " euro"
shows_text (BuiltIn x f) = (text " code " ++ hex_of x) ++ numbered (text " font ") f

-- `cell P`, and what it shows
unfoldable pub cell_line : Condition → ℕ → List ℕ
cell_line c p = numbered (text "cell ") p ++ (shows_text (view_answer c p).shows ++ new_line)

-- the dots P1 to P35 of a user character, 1 where it is lit, else 0
unfoldable pub dot_text : Condition → ℕ → ℕ → List ℕ
dot_text c code i = decimal_of (dot_answer c code (i + 1)).value

-- `user HH`, its dots, ` underline U lit N`
unfoldable pub user_line : Condition → ℕ → List ℕ
user_line c code =
    (text "user " ++ hex_of code) ++ (text " " ++ (each (dot_text c code) 35
    ++ (numbered (text " underline ") (underline_answer c code).value
    ++ (numbered (text " lit ") (lit_answer c code).value ++ new_line))))

-- the user character at a place, counted from the oldest
unfoldable pub user_at : Condition → ℕ → List ℕ
user_at c i = user_line c (get_or c.users.bytes (i * 6) 0)

-- the 40 cells in order, then the user characters held, the oldest first
unfoldable pub report_of : Condition → List ℕ
report_of c = each (cell_line c) 40 ++ each (user_at c) (min c.users.count 16)

-- what is printed of a run: its report, then the tally; or `refused N` alone
abbrev pub told_of : Ran → List ℕ
told_of r = print_of (report_of r.condition) r
