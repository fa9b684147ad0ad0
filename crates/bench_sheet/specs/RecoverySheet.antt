-- Cases for getting a lost module back (document 02, W7), worked out by hand; each from power-up font 0.
use Rattle.std.specs.Prelude.{◌≡◌, List, [], ◌∷◌, take}
use Rattle.condition.specs.declared.Condition.{Condition}
use Rattle.condition.specs.Condition.{power_up}
use Rattle.condition.specs.Bytes.{run_of}
use Rattle.recovery.specs.Recovery.{get_back, recover_refusal}
use Rattle.bench_sheet.specs.Sheet.{Case}

-- with room for eight bytes it is accepted, and they bring the module to power-up; with a byte less it is refused by 10
abbrev pub Returns : Condition → Type 0
Returns c = (recover_refusal c 8 ≡ 0) × (run_of c get_back ≡ power_up 0) × (recover_refusal c 7 ≡ 10)

-- it is refused by 11, with room and without
abbrev pub IsLost : Condition → Type 0
IsLost c = (recover_refusal c 8 ≡ 11) × (recover_refusal c 0 ≡ 11)

abbrev pub recovery_sheet : List Case
recovery_sheet =
    -- 41 13 19 1A 1B: after ESC, with a picture, mode 3, Katakana and Euro
    record { bytes = 0x41 ∷ 0x13 ∷ 0x19 ∷ 0x1a ∷ 0x1b ∷ []; holds = λ c busy. Returns c }
    -- 1B 43: a user code is awaited. 1B 43 41 01: four bytes of a user character are
    ∷ record { bytes = 0x1b ∷ 0x43 ∷ []; holds = λ c busy. Returns c }
    ∷ record { bytes = 0x1b ∷ 0x43 ∷ 0x41 ∷ 0x01 ∷ []; holds = λ c busy. Returns c }
    -- 1B 43, and then Initialise without the six 00h: ESC is being made a user character
    ∷ record { bytes = 0x1b ∷ 0x43 ∷ 0x1b ∷ 0x49 ∷ []; holds = λ c busy. IsLost c }
    -- the same with four bytes held
    ∷ record { bytes = 0x1b ∷ 0x43 ∷ 0x1b ∷ 0x49 ∷ 0x02 ∷ 0x03 ∷ 0x04 ∷ []; holds = λ c busy. IsLost c }
    -- and with all five: the eight bytes are then written as text, ESC and I
    ∷ record {
      bytes = 0x1b ∷ 0x43 ∷ 0x1b ∷ 0x49 ∷ 0x02 ∷ 0x03 ∷ 0x04 ∷ 0x05 ∷ [];
      holds = λ c busy. IsLost c × (take 3 (run_of c get_back).codes ≡ 0x1b ∷ 0x49 ∷ 0x20 ∷ []);
    }
    ∷ []
