-- The bench sheet (document 01; the last case 02, W3): fifteen cases, each from power-up font 0.
use Rattle.std.specs.Prelude.{ℕ, zero, suc, ◌≤◌, ◌≡◌, List, [], ◌∷◌, ◌++◌, true, false, cond, length, get_or, set, drop, replicate}
use Rattle.std.specs.Prelude.{eqb}
use Rattle.users.specs.Users.{is_user, place_at}
use Rattle.condition.specs.declared.Condition.{Condition}
use Rattle.glass.specs.declared.Shows.TheVariants.{Blank, Euro}
use Rattle.condition.specs.Condition.{power_up}
use Rattle.condition.specs.Bytes.{run_of}
use Rattle.condition.specs.Busy.{busy_of}
use Rattle.glass.specs.Shows.{shows_of}
use Rattle.glass.specs.Answers.{dot_answer, lit_answer}
use Rattle.planner.specs.Clear.{either_plan}
use Rattle.planner.specs.Answer.{plan_refusal}

-- a case: bytes that are run, and what then holds of the condition and of the busy time
pub record Case : Type 1 where
  pub bytes : List ℕ
  pub holds : Condition → ℕ → Type 0

-- every case of a sheet holds
abbrev pub AllHold : List Case → Type 0
AllHold [] = Unit {0}
AllHold (k ∷ ks) = k.holds (run_of (power_up 0) k.bytes) (busy_of (power_up 0) k.bytes) × AllHold ks

abbrev pub cell : Condition → ℕ → ℕ
cell c i = get_or c.codes i 0

-- which of the dots 1 to n of a code's user character are lit
unfoldable pub dots_up_to : Condition → ℕ → ℕ → List ℕ
dots_up_to c code zero = []
dots_up_to c code (suc n) = dots_up_to c code n ++ cond (eqb (dot_answer c code (suc n)).value 1) (suc n ∷ []) []

-- 1B 43, a code, and the byte d five times
abbrev pub defining : ℕ → ℕ → List ℕ
defining code d = 0x1b ∷ 0x43 ∷ code ∷ d ∷ d ∷ d ∷ d ∷ d ∷ []

-- the same for n codes from `first` on
abbrev pub defining_from : ℕ → ℕ → ℕ → List ℕ
defining_from zero first d = []
defining_from (suc n) first d = defining first d ++ defining_from n (suc first) d

-- the codes of n places, oldest first
abbrev pub codes_in : ℕ → List ℕ → List ℕ
codes_in zero us = []
codes_in (suc n) us = get_or us 0 0 ∷ codes_in n (drop 6 us)

-- the codes that have a user character, oldest first
abbrev pub user_codes : Condition → List ℕ
user_codes c = codes_in c.users.count c.users.bytes

-- the plan is accepted, with room for 44 bytes, and is these bytes
abbrev pub Planned : Condition → List ℕ → ℕ → List ℕ → Type 0
Planned c wanted asked bytes = (plan_refusal c wanted asked 44 ≡ 0) × (either_plan c wanted asked ≡ bytes)

abbrev pub blank : List ℕ
blank = replicate 40 0x20

-- 41h at 0, 42h at 21, else 20h
abbrev pub two : List ℕ
two = set (set blank 0 0x41) 21 0x42

abbrev pub sheet : List Case
sheet =
    -- 1. no bytes: nothing changes
    record { bytes = []; holds = λ c busy. (c ≡ power_up 0) × (busy ≡ 0) }
    -- 2. 41: cell 0 is 41h, cursor 1, busy 7
    ∷ record { bytes = 0x41 ∷ []; holds = λ c busy. (cell c 0 ≡ 0x41) × (c.cursor ≡ 1) × (busy ≡ 7) }
    -- 3. 1B 48 27 42: cell 39 is 42h, cursor 0, busy 21
    ∷ record { bytes = 0x1b ∷ 0x48 ∷ 0x27 ∷ 0x42 ∷ []; holds = λ c busy. (cell c 39 ≡ 0x42) × (c.cursor ≡ 0) × (busy ≡ 21) }
    -- 4. 12 1B 48 27 42: cell 19 is 42h, bottom blank, cursor 20, busy 40
    ∷ record {
      bytes = 0x12 ∷ 0x1b ∷ 0x48 ∷ 0x27 ∷ 0x42 ∷ [];
      holds = λ c busy. (cell c 19 ≡ 0x42) × (drop 20 c.codes ≡ replicate 20 0x20) × (c.cursor ≡ 20) × (busy ≡ 40);
    }
    -- 5. 13 1B 48 13 41 42: cells 18, 19 are 41h, 42h, cursor 19, busy 47
    ∷ record {
      bytes = 0x13 ∷ 0x1b ∷ 0x48 ∷ 0x13 ∷ 0x41 ∷ 0x42 ∷ [];
      holds = λ c busy. (cell c 18 ≡ 0x41) × (cell c 19 ≡ 0x42) × (c.cursor ≡ 19) × (busy ≡ 47);
    }
    -- 6. 1B 48 28: cursor 0, busy 14
    ∷ record { bytes = 0x1b ∷ 0x48 ∷ 0x28 ∷ []; holds = λ c busy. (c.cursor ≡ 0) × (busy ≡ 14) }
    -- 7. 1B 43 21 84 10 02 00 01: P3 P8 P13 P18 P33, five lit, busy 55
    ∷ record {
      bytes = 0x1b ∷ 0x43 ∷ 0x21 ∷ 0x84 ∷ 0x10 ∷ 0x02 ∷ 0x00 ∷ 0x01 ∷ [];
      holds = λ c busy.
          (dots_up_to c 0x21 35 ≡ 3 ∷ 8 ∷ 13 ∷ 18 ∷ 33 ∷ []) × (lit_answer c 0x21 ≡ record { refusal = 0; value = 5 })
          × (busy ≡ 55);
    }
    -- 8. 1B 48 14 08: cursor 20
    ∷ record { bytes = 0x1b ∷ 0x48 ∷ 0x14 ∷ 0x08 ∷ []; holds = λ c busy. c.cursor ≡ 20 }
    -- 9. 1A AD shows Euro; then 18, blank
    ∷ record { bytes = 0x1a ∷ 0xad ∷ []; holds = λ c busy. (shows_of c 0 ≡ Euro) × (shows_of (run_of c (0x18 ∷ [])) 0 ≡ Blank) }
    -- 10. 1B 43 09 00 00 00 00 00 09: cell 0 is 09h, cursor 1; plans refused 8
    ∷ record {
      bytes = 0x1b ∷ 0x43 ∷ 0x09 ∷ 0x00 ∷ 0x00 ∷ 0x00 ∷ 0x00 ∷ 0x00 ∷ 0x09 ∷ [];
      holds = λ c busy.
          (cell c 0 ≡ 0x09) × (c.cursor ≡ 1)
          × ((wanted : List ℕ) (asked room : ℕ) → length wanted ≡ 40 → asked ≤ 39 → plan_refusal c wanted asked room ≡ 8);
    }
    -- 11. plan 41h at 0, 42h at 21, else 20h, cursor 0: 41 0A 42 0C
    ∷ record { bytes = []; holds = λ c busy. Planned c two 0 (0x41 ∷ 0x0a ∷ 0x42 ∷ 0x0c ∷ []) }
    -- 12. after running 11's plan, plan the same picture and cursor: no bytes
    ∷ record { bytes = 0x41 ∷ 0x0a ∷ 0x42 ∷ 0x0c ∷ []; holds = λ c busy. Planned c two 0 [] }
    -- 13. 1B 48 05, then plan all cells 41h, cursor 39: 0C, forty 41, 1B 48 27; 44 bytes
    ∷ record {
      bytes = 0x1b ∷ 0x48 ∷ 0x05 ∷ [];
      holds = λ c busy.
          Planned c (replicate 40 0x41) 39 (0x0c ∷ (replicate 40 0x41 ++ 0x1b ∷ 0x48 ∷ 0x27 ∷ []))
          × (length (either_plan c (replicate 40 0x41) 39) ≡ 44);
    }
    -- 14. 1B 48 14, then plan a blank picture, cursor 19: 1B 48 13
    ∷ record { bytes = 0x1b ∷ 0x48 ∷ 0x14 ∷ []; holds = λ c busy. Planned c blank 19 (0x1b ∷ 0x48 ∷ 0x13 ∷ []) }
    -- 15. user characters on 80h to 8Fh, 80h again with other bytes, then 90h: 81h is gone and 80h is not; busy 990
    ∷ record {
      bytes = defining_from 16 0x80 0x00 ++ defining 0x80 0x05 ++ defining 0x90 0x00;
      holds = λ c busy.
          (user_codes c
          ≡ 0x82 ∷ 0x83 ∷ 0x84 ∷ 0x85 ∷ 0x86 ∷ 0x87 ∷ 0x88 ∷ 0x89 ∷ 0x8a ∷ 0x8b ∷ 0x8c ∷ 0x8d ∷ 0x8e ∷ 0x8f ∷ 0x80 ∷ 0x90 ∷ [])
          × (place_at c.users.bytes 14 ≡ 0x80 ∷ 0x05 ∷ 0x05 ∷ 0x05 ∷ 0x05 ∷ 0x05 ∷ [])
          × (is_user c.users 0x80 ≡ true) × (is_user c.users 0x81 ≡ false) × (busy ≡ 990);
    }
    ∷ []
