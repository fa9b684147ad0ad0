-- Cases for reels (document 02, W5), worked out by hand; each from power-up font 0.
use Rattle.std.specs.Prelude.{ℕ, ◌≡◌, List, [], ◌∷◌, ◌++◌}
use Rattle.condition.specs.declared.Condition.{Condition}
use Rattle.reel.specs.Reel.{pictures_of, plans_of, stop_of}
use Rattle.bench_sheet.specs.Sheet.{Case, blank, two}

-- the reel of these pictures is accepted, with these plans, in room for three
abbrev pub AcceptedAs : Condition → List ℕ → List ℕ → List (List ℕ) → Type 0
AcceptedAs c codes cursors plans =
    (stop_of c codes cursors 132 ≡ record { picture = 64; refusal = 0 }) × (plans_of c (pictures_of codes cursors) ≡ plans)

-- it is refused, with this room, for this picture by this number
abbrev pub StopsAt : Condition → List ℕ → List ℕ → ℕ → ℕ → ℕ → Type 0
StopsAt c codes cursors room picture refusal =
    stop_of c codes cursors room ≡ record { picture = picture; refusal = refusal }

abbrev pub reel_sheet : List Case
reel_sheet =
    -- two, as in case 11, cursor 0; two again, cursor 21; blank, cursor 21: 41 0A 42 0C, then 09 0A, then 0E
    record {
      bytes = [];
      holds = λ c busy. AcceptedAs c (two ++ (two ++ blank)) (0 ∷ 21 ∷ 21 ∷ [])
          ((0x41 ∷ 0x0a ∷ 0x42 ∷ 0x0c ∷ []) ∷ (0x09 ∷ 0x0a ∷ []) ∷ (0x0e ∷ []) ∷ []);
    }
    -- the second of three is asked for cursor 40: picture 1, refusal 3. With a byte less room for three: 64, refusal 10
    ∷ record { bytes = []; holds = λ c busy. StopsAt c (two ++ (two ++ blank)) (0 ∷ 40 ∷ 21 ∷ []) 132 1 3 }
    ∷ record { bytes = []; holds = λ c busy. StopsAt c (two ++ (two ++ blank)) (0 ∷ 40 ∷ 21 ∷ []) 131 64 10 }
    -- 12, then one picture: picture 0, refusal 7. No pictures: no bytes
    ∷ record { bytes = 0x12 ∷ []; holds = λ c busy. StopsAt c two (0 ∷ []) 44 0 7 }
    ∷ record { bytes = 0x12 ∷ []; holds = λ c busy. AcceptedAs c [] [] [] }
    ∷ []
