-- What is made of a file of blocks (document 02, W10).
use Rattle.std.specs.Prelude.{ℕ, zero, suc, ◌+◌, ◌*◌, ◌/◌, ◌%◌, Bool, cond, not, List, [], ◌++◌, length, take, drop, eqb, ltb}
use Rattle.laws.specs.Flags.{flag}
use Rattle.condition.specs.Condition.{power_up}
use Rattle.block.specs.Block.{block_of}
use Rattle.block.specs.Reading.{read_refusal}
use Rattle.lines.specs.Lines.{text, each, numbered, new_line, refused_line}

-- "Boards append a 512-byte block every hour": of a file's length the whole blocks, and the short tail
abbrev pub whole_in : ℕ → ℕ
whole_in size = size / 512

abbrev pub tail_in : ℕ → ℕ
tail_in size = size % 512

-- block k of a file, numbered from 0
unfoldable pub block_at : List ℕ → ℕ → List ℕ
block_at file k = take 512 (drop (k * 512) file)

-- "A block that document 01 accepts is good"
abbrev pub is_good : List ℕ → ℕ → Bool
is_good file k = eqb (read_refusal (block_at file k)) 0

-- "the last good block before" block k, by one more than its number; 0 "if there is none"
unfoldable pub last_good : List ℕ → ℕ → ℕ
last_good file zero = 0
last_good file (suc k) = cond (is_good file k) (suc k) (last_good file k)

-- that block; "the power-up block for font 0 if there is none"
unfoldable pub stand_in : List ℕ → ℕ → List ℕ
stand_in file zero = block_of (power_up 0)
stand_in file (suc n) = block_at file n

-- a good block "is copied; any other is replaced by the last good block before it"
unfoldable pub written_for : List ℕ → ℕ → List ℕ
written_for file k = cond (is_good file k) (block_at file k) (stand_in file (last_good file k))

-- "a line for each change": `block 3 repeated 2` (a copy of block 2), `block 0 power-up`
unfoldable pub change_line : ℕ → ℕ → List ℕ
change_line k zero = numbered (text "block ") k ++ text " power-up\n"
change_line k (suc n) = numbered (text "block ") k ++ (numbered (text " repeated ") n ++ new_line)

unfoldable pub line_for : List ℕ → ℕ → List ℕ
line_for file k = cond (is_good file k) [] (change_line k (last_good file k))

-- "A short tail is dropped": `tail 17 dropped` (bytes)
unfoldable pub tail_line : ℕ → List ℕ
tail_line zero = []
tail_line (suc n) = numbered (text "tail ") (suc n) ++ text " dropped\n"

-- how many of the first n numbers pass a test
unfoldable pub count_of : (ℕ → Bool) → ℕ → ℕ
count_of p zero = 0
count_of p (suc n) = count_of p n + flag (p n)

-- `kept K changed C`, "the good and the replaced blocks"
unfoldable pub counts_line : ℕ → ℕ → List ℕ
counts_line kept changed = numbered (text "kept ") kept ++ (numbered (text " changed ") changed ++ new_line)

-- The whole ----------------------------------------------------------------------------------------------------------------------

-- the second file
unfoldable pub second_of : List ℕ → List ℕ
second_of file = each (written_for file) (whole_in (length file))

-- all that is printed of a file that is not refused
unfoldable pub report_of : List ℕ → List ℕ
report_of file =
    let n = whole_in (length file) in
    each (line_for file) n
    ++ (tail_line (tail_in (length file)) ++ counts_line (count_of (is_good file) n) (count_of (λ k. not (is_good file k)) n))

-- "4 for more than 10,000 whole blocks", by the file's length
unfoldable pub salvage_refusal : ℕ → ℕ
salvage_refusal size = cond (ltb 10000 (whole_in size)) 4 0

pub record Salvaged : Type 0 where
  pub refusal : ℕ
  pub second : List ℕ
  pub printed : List ℕ

-- "printed as `refused 4` alone, with no file written"
unfoldable pub salvage_of : List ℕ → Salvaged
salvage_of file =
    let n = salvage_refusal (length file) in
    cond (eqb n 0) (record { refusal = 0; second = second_of file; printed = report_of file })
    (record { refusal = n; second = []; printed = refused_line n })
