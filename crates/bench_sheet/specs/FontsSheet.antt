-- Cases for the plan in two fonts (document 02, W1), worked out by hand; each from power-up font 0.
use Rattle.std.specs.Prelude.{ℕ, ◌≡◌, List, [], ◌∷◌, ◌++◌, length, set, replicate}
use Rattle.condition.specs.declared.Condition.{Condition}
use Rattle.planner.specs.Clear.{either_fonts_plan}
use Rattle.planner.specs.Answer.{fonts_refusal}
use Rattle.bench_sheet.specs.Sheet.{Case, blank}

-- the plan is accepted, with room for 104 bytes, and is these bytes
abbrev pub PlannedFonts : Condition → List ℕ → List ℕ → ℕ → List ℕ → Type 0
PlannedFonts c wanted fonts asked bytes =
    (fonts_refusal c wanted fonts asked 104 ≡ 0) × (either_fonts_plan c wanted fonts asked ≡ bytes)

-- International and Katakana in turn
abbrev in_turn : List ℕ
in_turn = pair ++ (pair ++ (pair ++ (pair ++ pair)))
  where
    pair : List ℕ
    pair = 0 ∷ 1 ∷ 0 ∷ 1 ∷ 0 ∷ 1 ∷ 0 ∷ 1 ∷ []

abbrev pub fonts_sheet : List Case
fonts_sheet =
    -- Katakana below: 41h at 0, B1h in Katakana at 20, else 20h, cursor 0: 41 08 0A 19 B1 0C
    record {
      bytes = [];
      holds = λ c busy.
          PlannedFonts c (set (set blank 0 0x41) 20 0xb1) (set (replicate 40 0) 20 1) 0
          (0x41 ∷ 0x08 ∷ 0x0a ∷ 0x19 ∷ 0xb1 ∷ 0x0c ∷ []);
    }
    -- Euro on, fonts in turn: 19 41 18 1A 42 19 43 18 1A 44
    ∷ record {
      bytes = 0x1a ∷ [];
      holds = λ c busy.
          PlannedFonts c (set (set (set (set blank 0 0x41) 1 0x42) 2 0x43) 3 0x44) (set (set (replicate 40 0) 0 1) 2 1) 4
          (0x19 ∷ 0x41 ∷ 0x18 ∷ 0x1a ∷ 0x42 ∷ 0x19 ∷ 0x43 ∷ 0x18 ∷ 0x1a ∷ 0x44 ∷ []);
    }
    -- the longest: Katakana selected, Euro on, cursor 5; all cells 41h, fonts in turn, cursor 39: accepted, 104 bytes
    ∷ record {
      bytes = 0x19 ∷ 0x1a ∷ 0x1b ∷ 0x48 ∷ 0x05 ∷ [];
      holds = λ c busy.
          (fonts_refusal c (replicate 40 0x41) in_turn 39 104 ≡ 0)
          × (length (either_fonts_plan c (replicate 40 0x41) in_turn 39) ≡ 104);
    }
    ∷ []
