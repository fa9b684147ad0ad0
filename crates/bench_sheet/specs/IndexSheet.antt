-- Cases for the index of user codes (document 02, W9), worked out by hand; each from power-up font 0.
use Rattle.std.specs.Prelude.{ℕ, ◌≡◌, List, [], ◌∷◌, ◌++◌, get_or, replicate}
use Rattle.condition.specs.declared.Condition.{Condition}
use Rattle.bench_sheet.specs.Sheet.{Case, defining, defining_from}

-- the entry of a code
abbrev pub entry : Condition → ℕ → ℕ
entry c code = get_or c.index code 0

abbrev pub index_sheet : List Case
index_sheet =
    -- no bytes: 256 entries, none in use
    record { bytes = []; holds = λ c busy. c.index ≡ replicate 256 0 }
    -- 41h and then FFh defined: places 1 and 2, and no other
    ∷ record {
      bytes = defining 0x41 0x00 ++ defining 0xff 0x00;
      holds = λ c busy. c.index ≡ replicate 65 0 ++ 1 ∷ replicate 189 0 ++ 2 ∷ [];
    }
    -- 41h, 42h and 41h again: it is the youngest, and 42h the oldest
    ∷ record {
      bytes = defining_from 2 0x41 0x00 ++ defining 0x41 0xff;
      holds = λ c busy. (entry c 0x41 ≡ 2) × (entry c 0x42 ≡ 1);
    }
    -- 17 definitions, 41h to 51h: 41h is gone, 42h the oldest, 51h the youngest
    ∷ record {
      bytes = defining_from 17 0x41 0x00;
      holds = λ c busy. (entry c 0x41 ≡ 0) × (entry c 0x42 ≡ 1) × (entry c 0x51 ≡ 16);
    }
    -- four of the five bytes of a user character: it has none yet
    ∷ record { bytes = 0x1b ∷ 0x43 ∷ 0x41 ∷ 0x00 ∷ 0x00 ∷ 0x00 ∷ 0x00 ∷ []; holds = λ c busy. entry c 0x41 ≡ 0 }
    -- Initialise: none any more
    ∷ record { bytes = defining_from 3 0x41 0x00 ++ 0x1b ∷ 0x49 ∷ []; holds = λ c busy. c.index ≡ replicate 256 0 }
    ∷ []
