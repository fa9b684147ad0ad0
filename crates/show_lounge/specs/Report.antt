-- What `show_lounge` prints (document 02, W8).
use Rattle.std.specs.Prelude.{ℕ, ◌≡◌, cond, List, ◌++◌, length, take, drop, get_or, eqb}
use Rattle.laws.specs.Flags.{flag}
use Rattle.users.specs.Users.{place_at}
use Rattle.lounge.specs.declared.Lounge.{Lounge}
use Rattle.lounge.specs.Condition.{reset_of}
use Rattle.lounge.specs.Run.{Ran, run_answer}
use Rattle.show_lounge.specs.Rest.{Rest, rest_of, ran_with, Fits}
use Rattle.lines.specs.Lines.{text, each, hex_of, last_digit, numbered, new_line, hex_line, cell_lines, refused_line}

-- the marks of a line, a hex digit each with nothing between
unfoldable pub mark_line : List ℕ → List ℕ
mark_line marks = each (λ i. last_digit (get_or marks i 0)) (length marks) ++ new_line

-- the marks by line
unfoldable pub mark_lines : List ℕ → List ℕ
mark_lines marks = mark_line (take 20 marks) ++ mark_line (drop 20 marks)

-- `cursor N mode M scroll S dimming D last HH`
unfoldable pub place_line : Lounge → List ℕ
place_line c =
    numbered (text "cursor ") c.cursor
    ++ (numbered (text " mode ") c.mode
    ++ (numbered (text " scroll ") (flag c.scrolling)
    ++ (numbered (text " dimming ") (flag c.dimming) ++ ((text " last " ++ hex_of c.last) ++ new_line))))

-- `user CC d1 d2 d3 d4 d5` of the user character at a place
unfoldable pub user_line : List ℕ → ℕ → List ℕ
user_line us k = text "user " ++ hex_line (place_at us k)

-- of each user character, oldest first
unfoldable pub user_lines : Lounge → List ℕ
user_lines c = each (user_line c.users) c.count

unfoldable pub report_of : Lounge → List ℕ
report_of c = cell_lines c.codes ++ (mark_lines c.marks ++ (place_line c ++ user_lines c))

-- what is printed of a run: its report, or `refused N` alone
unfoldable pub shown_of : Ran → List ℕ
shown_of r = cond (eqb r.refusal 0) (report_of r.condition) (refused_line r.refusal)

-- What is printed for the first bytes and the rest is what is to be printed of a run of all of them.
pub record ShownAll (first : List ℕ) (rest : Rest) (x : List ℕ) : Type 0 where
  pub answer : x ≡ shown_of (ran_with first rest)
  pub whole : (bs : List ℕ) → Fits first bs → rest ≡ rest_of bs → x ≡ shown_of (run_answer reset_of (first ++ bs))
