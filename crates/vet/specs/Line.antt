-- What `vet BLOCK PICTURE STRING` prints (document 02, W11): yes and the excess, or why not.
use Rattle.std.specs.Prelude.{ℕ, cond, List, ◌++◌, length, get_or, take, eqb}
use Rattle.lines.specs.Lines.{text, numbered, new_line, refused_line}
use Rattle.vetting.specs.Verdicts.{Verdict, Refused, Byte, Cell, Cursor, Yes}
use Rattle.vetting.specs.Vetting.{block_verdict}

-- PICTURE is 40 codes and the asked cursor, 41 bytes; 1 where it is not
unfoldable pub files_verdict : List ℕ → List ℕ → List ℕ → Verdict
files_verdict block picture string =
    cond (eqb (length picture) 41) (block_verdict block (take 40 picture) (get_or picture 40 0) string) (Refused 1)

-- a word, a number in decimal and a new line
abbrev pub numbered_line : List ℕ → ℕ → List ℕ
numbered_line word n = numbered word n ++ new_line

-- `yes excess N`, or why not; or `refused N`
unfoldable pub verdict_line : Verdict → List ℕ
verdict_line (Refused n) = refused_line n
verdict_line (Byte at) = numbered_line (text "no, byte ") at
verdict_line (Cell place) = numbered_line (text "no, cell ") place
verdict_line Cursor = text "no, cursor\n"
verdict_line (Yes excess) = numbered_line (text "yes excess ") excess

-- all that is printed of three files
abbrev pub vet_line : List ℕ → List ℕ → List ℕ → List ℕ
vet_line block picture string = verdict_line (files_verdict block picture string)
