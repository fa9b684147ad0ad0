-- What `show` prints (document 01, Sample program).
use Rattle.std.specs.Prelude.{ℕ, List, ◌++◌}
use Rattle.condition.specs.declared.Condition.{Condition}
use Rattle.interpreter.specs.Run.{Ran}
use Rattle.lines.specs.Lines.{text, numbered, new_line, cell_lines, print_of}

-- in decimal cursor, mode, selected font: `cursor C mode M font F`
unfoldable pub place_line : Condition → List ℕ
place_line c =
    numbered (text "cursor ") c.cursor ++ (numbered (text " mode ") c.mode ++ (numbered (text " font ") c.font ++ new_line))

unfoldable pub report_of : Condition → List ℕ
report_of c = cell_lines c.codes ++ place_line c

-- what is printed of a run: its report, then the tally; or `refused N` alone
abbrev pub shown_of : Ran → List ℕ
shown_of r = print_of (report_of r.condition) r
