-- Cases for plans that may start from a clear (document 02, W4), worked out by hand; each from power-up font 0.
use Rattle.std.specs.Prelude.{ℕ, List, [], ◌∷◌, ◌++◌, set, replicate}
use Rattle.bench_sheet.specs.Sheet.{Case, defining, Planned, blank}
use Rattle.bench_sheet.specs.FontsSheet.{PlannedFonts}

-- 42h at 0, else 20h
abbrev pub short : List ℕ
short = set blank 0 0x42

abbrev pub clear_sheet : List Case
clear_sheet =
    -- forty 41h, then plan 42h at 0, else 20h, cursor 0: 0E 42 08
    record { bytes = replicate 40 0x41; holds = λ c busy. Planned c short 0 (0x0e ∷ 0x42 ∷ 0x08 ∷ []) }
    -- the same with a user character on 0Eh: not refused, and no clear; 42, thirty-nine 20
    ∷ record { bytes = defining 0x0e 0x00 ++ replicate 40 0x41; holds = λ c busy. Planned c short 0 (0x42 ∷ replicate 39 0x20) }
    -- and wanted: 0Eh is a write; 0E, thirty-nine 20
    ∷ record {
      bytes = defining 0x0e 0x00 ++ replicate 40 0x41;
      holds = λ c busy. Planned c (set blank 0 0x0e) 0 (0x0e ∷ replicate 39 0x20);
    }
    -- a tie: 41 0C, then plan a blank picture, cursor 5: 20 1B 48 05, not 0E 1B 48 05
    ∷ record { bytes = 0x41 ∷ 0x0c ∷ []; holds = λ c busy. Planned c blank 5 (0x20 ∷ 0x1b ∷ 0x48 ∷ 0x05 ∷ []) }
    -- 19 1A, forty B1h, then plan 42h in font 0 at 0, else 20h in font 1, cursor 0: cleared in font 1, 0E 18 1A 42 08
    ∷ record {
      bytes = 0x19 ∷ 0x1a ∷ replicate 40 0xb1;
      holds = λ c busy. PlannedFonts c short (set (replicate 40 1) 0 0) 0 (0x0e ∷ 0x18 ∷ 0x1a ∷ 0x42 ∷ 0x08 ∷ []);
    }
    -- forty 41h, then plan a blank picture wholly in font 1, cursor 0: no help from the clear; 19, forty 20
    ∷ record { bytes = replicate 40 0x41; holds = λ c busy. PlannedFonts c blank (replicate 40 1) 0 (0x19 ∷ replicate 40 0x20) }
    ∷ []
