-- Cases for the lounge module (document 02, W8), worked out by hand; each from reset.
use Rattle.std.specs.Prelude.{ℕ, ◌-◌, ◌≡◌, true, false, List, [], ◌∷◌, ◌++◌, length, take, drop, get_or, replicate}
use Rattle.lounge.specs.declared.Lounge.{Lounge}
use Rattle.lounge.specs.declared.Pending.TheVariants.{Nothing, First}
use Rattle.lounge.specs.declared.Shows.TheVariants.{User, BuiltIn}
use Rattle.lounge.specs.declared.Level.TheVariants.{A, B}
use Rattle.lounge.specs.Condition.{reset_of}
use Rattle.lounge.specs.Pairs.{run_of}
use Rattle.lounge.specs.Shows.{view_answer}

-- data writes of the bytes, and command writes
abbrev pub data_writes : List ℕ → List ℕ
data_writes [] = []
data_writes (b ∷ bs) = 0 ∷ b ∷ data_writes bs

abbrev pub commands : List ℕ → List ℕ
commands [] = []
commands (b ∷ bs) = 1 ∷ b ∷ commands bs

-- a row of 40 with a text at the start of each line, and v elsewhere
abbrev pub row_of : ℕ → List ℕ → List ℕ → List ℕ
row_of v top bottom = (top ++ replicate (20 - length top) v) ++ (bottom ++ replicate (20 - length bottom) v)

-- a case: pairs that are run from reset, and what then holds
pub record LoungeCase : Type 1 where
  pub pairs : List ℕ
  pub holds : Lounge → Type 0

abbrev pub AllHoldOf : List LoungeCase → Type 0
AllHoldOf [] = Unit {0}
AllHoldOf (k ∷ ks) = k.holds (run_of reset_of k.pairs) × AllHoldOf ks

-- the cells of a condition
abbrev pub Cells : Lounge → List ℕ → List ℕ → Type 0
Cells c codes marks = (c.codes ≡ codes) × (c.marks ≡ marks)

abbrev pub lounge_sheet : List LoungeCase
lounge_sheet =
    -- 001's own example: 1B 21 84 10 02 00 01, and then 21h shows it
    record {
      pairs = data_writes (0x1b ∷ 0x21 ∷ 0x84 ∷ 0x10 ∷ 0x02 ∷ 0x00 ∷ 0x01 ∷ 0x21 ∷ []);
      holds =
          λ c. (take 6 c.users ≡ 0x21 ∷ 0x84 ∷ 0x10 ∷ 0x02 ∷ 0x00 ∷ 0x01 ∷ []) × (c.count ≡ 1)
          × ((view_answer c 0).shows ≡ User 0x21) × (c.cursor ≡ 1) × (c.last ≡ 0x21);
    }
    -- A at 20, then 09h at 27h: the bottom line comes up, and the cursor goes to 20; the same in DC2
    ∷ record {
      pairs = commands (0x14 ∷ []) ++ (data_writes (0x41 ∷ []) ++ (commands (0x27 ∷ []) ++ data_writes (0x09 ∷ [])));
      holds = λ c. (c.codes ≡ row_of 0x20 (0x41 ∷ []) []) × (c.cursor ≡ 20);
    }
    ∷ record {
      pairs = data_writes (0x12 ∷ []) ++ (commands (0x14 ∷ []) ++ (data_writes (0x41 ∷ []) ++ (commands (0x27 ∷ []) ++ data_writes
          (0x09 ∷ []))));
      holds = λ c. (c.codes ≡ row_of 0x20 (0x41 ∷ []) []) × (c.cursor ≡ 20);
    }
    -- a DC1 write at 27h goes to the top left; 09h and a DC1 write at 13h go to 20
    ∷ record {
      pairs = commands (0x27 ∷ []) ++ data_writes (0x41 ∷ []);
      holds = λ c. (get_or c.codes 39 0 ≡ 0x41) × (c.cursor ≡ 0);
    }
    ∷ record { pairs = commands (0x13 ∷ []) ++ data_writes (0x09 ∷ []); holds = λ c. c.cursor ≡ 20 }
    ∷ record { pairs = commands (0x13 ∷ []) ++ data_writes (0x41 ∷ []); holds = λ c. c.cursor ≡ 20 }
    -- DC2 at 27h with a bright A: the first write stays and sets scroll-on, the next ones shift the cursor's own line, with its
    -- marks
    ∷ record {
      pairs =
          data_writes (0x12 ∷ []) ++ (commands (0x27 ∷ []) ++ data_writes (0x41 ∷ 0x17 ∷ 0x27 ∷ 0x27 ∷ 0x42 ∷ 0x43 ∷ []));
      holds =
          λ c. (drop 37 c.codes ≡ 0x41 ∷ 0x42 ∷ 0x43 ∷ []) × (drop 37 c.marks ≡ 1 ∷ 0 ∷ 0 ∷ []) × (c.cursor ≡ 39)
          × (c.scrolling ≡ true) × (c.dimming ≡ true) × (take 20 c.codes ≡ replicate 20 0x20);
    }
    -- 08h, which has no meaning here, leaves scroll-on; 09h at column 19, 0Dh, a mode, a position and a reset of the cursor's line
    -- end it
    ∷ record {
      pairs = data_writes (0x12 ∷ []) ++ (commands (0x13 ∷ []) ++ data_writes (0x41 ∷ 0x08 ∷ []));
      holds = λ c. (c.scrolling ≡ true) × (c.cursor ≡ 19) × (c.last ≡ 0x08);
    }
    ∷ record {
      pairs = data_writes (0x12 ∷ []) ++ (commands (0x13 ∷ []) ++ data_writes (0x41 ∷ 0x09 ∷ []));
      holds = λ c. (c.scrolling ≡ false) × (c.cursor ≡ 20);
    }
    ∷ record {
      pairs = data_writes (0x12 ∷ []) ++ (commands (0x13 ∷ []) ++ data_writes (0x41 ∷ 0x0d ∷ []));
      holds = λ c. (c.scrolling ≡ false) × (c.cursor ≡ 0);
    }
    ∷ record {
      pairs = data_writes (0x12 ∷ []) ++ (commands (0x13 ∷ []) ++ data_writes (0x41 ∷ 0x12 ∷ []));
      holds = λ c. (c.scrolling ≡ false) × (c.cursor ≡ 19);
    }
    ∷ record {
      pairs = data_writes (0x12 ∷ []) ++ (commands (0x13 ∷ []) ++ (data_writes (0x41 ∷ []) ++ commands (0x13 ∷ [])));
      holds = λ c. (c.scrolling ≡ false) × (c.cursor ≡ 19);
    }
    ∷ record {
      pairs = data_writes (0x12 ∷ []) ++ (commands (0x13 ∷ []) ++ (data_writes (0x41 ∷ []) ++ commands (0x40 ∷ [])));
      holds = λ c. (c.scrolling ≡ false) × (c.cursor ≡ 0) × (c.codes ≡ replicate 40 0x20);
    }
    -- ABC with B and C underlined and C blinking too; a reset of the other line leaves them
    ∷ record {
      pairs = data_writes (0x41 ∷ 0x42 ∷ 0x43 ∷ 0x1c ∷ 0x01 ∷ 0x02 ∷ 0x19 ∷ 0x02 ∷ 0x02 ∷ []) ++ commands (0x41 ∷ []);
      holds =
          λ c. Cells c (row_of 0x20 (0x41 ∷ 0x42 ∷ 0x43 ∷ []) []) (row_of 0 (0 ∷ 4 ∷ 6 ∷ []) []) × (c.cursor ≡ 3) ×
          (c.dimming ≡ false)
          × (view_answer c 2 ≡ record { refusal = 0; shows = BuiltIn 0x43; level = A; blinking = true; underlined = true });
    }
    -- a bright A dims the others, until 18h
    ∷ record {
      pairs = data_writes (0x41 ∷ 0x42 ∷ 0x17 ∷ 0x00 ∷ 0x00 ∷ []);
      holds = λ c. (c.dimming ≡ true) × ((view_answer c 0).level ≡ A) × ((view_answer c 1).level ≡ B);
    }
    ∷ record {
      pairs = data_writes (0x41 ∷ 0x42 ∷ 0x17 ∷ 0x00 ∷ 0x00 ∷ 0x18 ∷ []);
      holds = λ c. (c.dimming ≡ false) × (c.marks ≡ replicate 40 0) × ((view_answer c 1).level ≡ A);
    }
    -- pairs that are dropped: out of order, and above 27h; nothing is marked or dimmed, and nothing waits
    ∷ record {
      pairs = data_writes (0x17 ∷ 0x02 ∷ 0x01 ∷ 0x17 ∷ 0x00 ∷ 0x28 ∷ 0x17 ∷ 0x28 ∷ 0x28 ∷ []);
      holds = λ c. (c.marks ≡ replicate 40 0) × (c.dimming ≡ false) × (c.pending ≡ Nothing);
    }
    -- a command write between an area code and its positions acts, and is none of them
    ∷ record {
      pairs = data_writes (0x19 ∷ []) ++ (commands (0x05 ∷ []) ++ (data_writes (0x00 ∷ []) ++ (commands (0x40 ∷ []) ++ data_writes
          (0x01 ∷ []))));
      holds = λ c. (c.marks ≡ row_of 0 (2 ∷ 2 ∷ []) []) × (c.cursor ≡ 0) × (c.last ≡ 0x01);
    }
    -- nine user characters on 01h to 09h, and 02h again: 01h is gone, and 02h is the youngest
    ∷ record {
      pairs =
          data_writes (nine (0x01 ∷ 0x02 ∷ 0x03 ∷ 0x04 ∷ 0x05 ∷ 0x06 ∷ 0x07 ∷ 0x08 ∷ 0x09 ∷ 0x02 ∷ []));
      holds = λ c. (c.users ≡ eight (0x03 ∷ 0x04 ∷ 0x05 ∷ 0x06 ∷ 0x07 ∷ 0x08 ∷ 0x09 ∷ 0x02 ∷ [])) × (c.count ≡ 8);
    }
    -- 1B 1B 00 00 00 00 FF makes 1Bh a character, of whose fifth byte three bits stay; ESC is then written, and 17h still waits
    ∷ record {
      pairs = data_writes (0x1b ∷ 0x1b ∷ 0x00 ∷ 0x00 ∷ 0x00 ∷ 0x00 ∷ 0xff ∷ 0x1b ∷ 0x41 ∷ 0x17 ∷ []);
      holds =
          λ c. (take 2 c.codes ≡ 0x1b ∷ 0x41 ∷ []) × (get_or c.users 5 0 ≡ 7) × (c.pending ≡ First 0x17)
          × ((view_answer c 0).shows ≡ User 0x1b);
    }
    ∷ []
  where
    -- a user character of five bytes 0 on each code
    nine : List ℕ → List ℕ
    nine [] = []
    nine (code ∷ codes) = 0x1b ∷ code ∷ 0 ∷ 0 ∷ 0 ∷ 0 ∷ 0 ∷ nine codes

    eight : List ℕ → List ℕ
    eight [] = []
    eight (code ∷ codes) = code ∷ 0 ∷ 0 ∷ 0 ∷ 0 ∷ 0 ∷ eight codes
