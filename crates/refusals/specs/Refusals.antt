-- Refusal numbers (document 01, Refusal numbers and their order; 11 is of document 02, W7). Each answer carries its refusal
-- number, 0
-- when accepted; the code has a Result or an Option, and these give the paper's number for each of its cases.
use Rattle.std.specs.Prelude.{ℕ, Result, Ok, Err, Option, None, Some}
use Rattle.refusals.specs.declared.Refusal.{Refusal}
use Rattle.refusals.specs.declared.Refusal.TheVariants.{WrongLength, Damaged, OutOfRange, TooLong, TallyFull, HalfReceived}
use Rattle.refusals.specs.declared.Refusal.TheVariants.{WrongMode, UserOnMove, NoCharacter, NoRoom, Lost}

abbrev pub number_of : Refusal → ℕ
number_of WrongLength = 1
number_of Damaged = 2
number_of OutOfRange = 3
number_of TooLong = 4
number_of TallyFull = 5
number_of HalfReceived = 6
number_of WrongMode = 7
number_of UserOnMove = 8
number_of NoCharacter = 9
number_of NoRoom = 10
number_of Lost = 11

-- the refusal number of an answer, 0 when accepted
abbrev pub refusal_in : {A : Type 0} → Result A Refusal → ℕ
refusal_in (Ok x) = 0
refusal_in (Err refusal) = number_of refusal

-- the number of a refusal, 0 for none
abbrev pub number_or_none : Option Refusal → ℕ
number_or_none None = 0
number_or_none (Some refusal) = number_of refusal
