-- Cases for the tally with its worst total (document 02, W2), worked out by hand: runs from power-up font 0 with a zero tally.
use Rattle.std.specs.Prelude.{ℕ, ◌≡◌, List, [], ◌∷◌}
use Rattle.condition.specs.Condition.{power_up}
use Rattle.interpreter.specs.declared.Tally.{Tally}
use Rattle.interpreter.specs.Run.{zero_tally, run_answer}

-- a case: bytes that are run, and the tally after them
pub record Counted : Type 0 where
  pub bytes : List ℕ
  pub tally : Tally

-- the run is accepted and leaves its tally
abbrev pub Counts : List ℕ → Tally → Type 0
Counts bs t = ((run_answer (power_up 0) zero_tally bs).refusal ≡ 0) × ((run_answer (power_up 0) zero_tally bs).tally ≡ t)

-- every run of a sheet does
abbrev pub AllCount : List Counted → Type 0
AllCount [] = Unit {0}
AllCount (k ∷ ks) = Counts k.bytes k.tally × AllCount ks

abbrev pub tally_sheet : List Counted
tally_sheet =
    -- 41 0A 42 0C, flickerless off: the worst total is the busy one
    record { bytes = 0x41 ∷ 0x0a ∷ 0x42 ∷ 0x0c ∷ []; tally = record { bytes = 4; busy = 26; flickerless = 0; worst = 26 } }
    -- 1B 53 41 0B 1B 49: 200 more for the write, the ignored byte and the two that turn it off, not for the 53h that turns it on
    ∷ record {
      bytes = 0x1b ∷ 0x53 ∷ 0x41 ∷ 0x0b ∷ 0x1b ∷ 0x49 ∷ [];
      tally = record { bytes = 6; busy = 71; flickerless = 4; worst = 871 };
    }
    -- 1B 53 1B 53 1B 54 07: a second 53h, and a parameter
    ∷ record {
      bytes = 0x1b ∷ 0x53 ∷ 0x1b ∷ 0x53 ∷ 0x1b ∷ 0x54 ∷ 0x07 ∷ [];
      tally = record { bytes = 7; busy = 40; flickerless = 5; worst = 1040 };
    }
    ∷ []
