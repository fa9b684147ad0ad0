-- How the file is gone through, a block at a time. Of each block only its source is kept: which block of the file was written for
-- it, by one more than that block's number, or 0 for the power-up block. The report is made of the sources at the end.
use Rattle.std.specs.Prelude.{ℕ, suc, ◌+◌, ◌-◌, ◌*◌, ◌≤◌, ◌<◌, ◌≡◌, Bool, cond, List, [], ◌++◌, length, take, get_or, eqb}
use Rattle.std.specs.Prelude.{Option}
use Rattle.std.specs.Io.KnownBytes.{Consumes, Appends}
use Rattle.block.specs.Reading.{read_refusal}
use Rattle.lines.specs.Lines.{each, refused_line}
use Rattle.salvage.specs.Salvage.{block_at, last_good, stand_in, written_for, change_line, tail_line, count_of}
use Rattle.salvage.specs.Salvage.{counts_line, second_of, salvage_refusal, salvage_of}

-- A step through a file, at block k: r is its source, and `after` is what is written for it, and stands in for what comes next.
pub record Step (file : List ℕ) (k : ℕ) (after : List ℕ) (r : ℕ) : Type 0 where
  pub source : r ≡ last_good file (suc k)
  pub written : after ≡ written_for file k
  pub stands : after ≡ stand_in file r

-- A block that was judged, where `before`, the block `source`, stood in before it. That is a step through any file in which the
-- block has this number.
pub record Judged (block : List ℕ) (number : ℕ) (before : List ℕ) (source : ℕ) (after : List ℕ) (r : ℕ) : Type 0 where
  pub answer : r ≡ cond (eqb (read_refusal block) 0) (number + 1) source
  pub left : after ≡ cond (eqb (read_refusal block) 0) block before
  pub step : (file : List ℕ) → block_at file number ≡ block → source ≡ last_good file number → before ≡ stand_in file source
      → Step file number after r

-- What may be written for a block that was read: a good block, and this very one where it is good.
pub record Due (read block : List ℕ) : Type 0 where
  pub good : read_refusal block ≡ 0
  pub same : read_refusal read ≡ 0 → block ≡ read

-- the sources of the first n blocks of a file
abbrev pub SourcesOf : List ℕ → ℕ → List ℕ → Type 0
SourcesOf file n sources = (k : ℕ) → k < n → get_or sources k 0 ≡ last_good file (suc k)

-- What was read in n blocks, whatever it was: the sources are those of a file of these blocks.
pub record Sourced (n : ℕ) (sources : List ℕ) : Type 0 where
  pub file : List ℕ
  pub long : length file ≡ n * 512
  pub each : SourcesOf file n sources

-- What was copied of n blocks: they are the next bytes of what is read, where those are known, and what is written for them comes
-- behind what is held, where that is known.
pub record Copied (n : ℕ) (sources : List ℕ) (left left' held held' : Option (List ℕ)) : Type 0 where
  pub file : List ℕ
  pub long : length file ≡ n * 512
  pub each : SourcesOf file n sources
  pub read : Consumes left left' file
  pub written : Appends held held' (second_of file)

-- What is printed, by the sources -------------------------------------------------------------------------------------------------

-- block k is its own source
abbrev pub own_source : List ℕ → ℕ → Bool
own_source sources k = eqb (get_or sources k 0) (k + 1)

unfoldable pub line_by : ℕ → ℕ → List ℕ
line_by k source = cond (eqb source (k + 1)) [] (change_line k source)

unfoldable pub report_by : List ℕ → ℕ → ℕ → List ℕ
report_by sources n tail =
    each (λ k. line_by k (get_or sources k 0)) n
    ++ (tail_line tail ++ counts_line (count_of (own_source sources) n) (n - count_of (own_source sources) n))

-- x is all that is to be printed of a file of so many bytes, whatever stands in it
pub record PrintedOf (size : ℕ) (x : List ℕ) : Type 0 where
  pub file : List ℕ
  pub long : length file ≡ size
  pub all : x ≡ (salvage_of file).printed

-- What stands in the first r bytes of a buffer: of a file that is refused its refusal; of any other all that is to be printed, or
-- nothing, where the second file could not be made.
pub record Reports (size r : ℕ) (out : List ℕ) : Type 0 where
  pub within : r ≤ length out
  pub refused : (salvage_refusal size ≡ 0 → ⊥) → take r out ≡ refused_line (salvage_refusal size)
  pub told : (r ≡ 0 → ⊥) → PrintedOf size (take r out)
