-- What is said of a string, as the paper has it: a refusal number, or a no and why, or a yes. The code has a Result of the rest.
use Rattle.std.specs.Prelude.{ℕ, Result, Ok, Err}
use Rattle.refusals.specs.declared.Refusal.{Refusal}
use Rattle.refusals.specs.Refusals.{number_of}
use Rattle.vetting.specs.declared.Verdict.{Verdict as Given}
use Rattle.vetting.specs.declared.Verdict.TheVariants.{Byte as GivenByte, Cell as GivenCell, Cursor as GivenCursor, Yes as GivenYes}

pub data Verdict : Type 0 where
  Refused : ℕ → Verdict
  Byte : ℕ → Verdict
  Cell : ℕ → Verdict
  Cursor : Verdict
  Yes : ℕ → Verdict

-- the code's answer in these words
abbrev pub unrefused : Given → Verdict
unrefused (GivenByte at) = Byte at
unrefused (GivenCell place) = Cell place
unrefused GivenCursor = Cursor
unrefused (GivenYes excess) = Yes excess

abbrev pub verdict : Result Given Refusal → Verdict
verdict (Ok given) = unrefused given
verdict (Err refusal) = Refused (number_of refusal)
