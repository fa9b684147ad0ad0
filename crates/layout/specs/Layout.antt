-- The layout of a condition in bytes (document 01, Block): as bytes, and read from bytes.
use Rattle.std.specs.Prelude.{ℕ, List, [], ◌∷◌, ◌++◌, cond, length, get_or, take, drop, eqb, ltb}
use Rattle.users.specs.Users.{users_in}
use Rattle.index.specs.Index.{index_of}
use Rattle.condition.specs.declared.Condition.{Condition}
use Rattle.condition.specs.declared.Pending.{Pending}
use Rattle.condition.specs.declared.Pending.TheVariants.{Nothing, Escape, Position, Luminance, Speed, UserCode, UserData}
use Rattle.laws.specs.Flags.{flag}
use Rattle.condition.specs.Condition.{held_of, power_up}

-- 13 half-received kind 0 to 6 in the order of "The condition"
abbrev pub kind_of : Pending → ℕ
kind_of Nothing = 0
kind_of Escape = 1
kind_of Position = 2
kind_of Luminance = 3
kind_of Speed = 4
kind_of UserCode = 5
kind_of (UserData code n) = 6

-- 14 its code
abbrev pub code_of : Pending → ℕ
code_of Nothing = 0
code_of Escape = 0
code_of Position = 0
code_of Luminance = 0
code_of Speed = 0
code_of UserCode = 0
code_of (UserData code n) = code

-- 0 56h, 1 4Bh, 2 01h, 3 cursor, 4 mode, 5 scroll-on, 6 shown, 7 selected font, 8 default font, 9 Euro, 10 luminance, 11 speed,
-- 12 flickerless, 13 half-received kind, 14 its code, 15 bytes held, 16-19 those bytes, 20 user count, 21-23 unused
unfoldable pub head_of : Condition → List ℕ
head_of c =
    0x56 ∷ 0x4b ∷ 0x01 ∷ c.cursor ∷ c.mode ∷ flag c.scrolling ∷ flag c.shown ∷ c.font ∷ c.link ∷ flag c.euro
    ∷ c.luminance ∷ c.speed ∷ flag c.flickerless ∷ kind_of c.pending ∷ code_of c.pending ∷ held_of c.pending
    ∷ get_or c.held 0 0 ∷ get_or c.held 1 0 ∷ get_or c.held 2 0 ∷ get_or c.held 3 0 ∷ c.users.count ∷ 0 ∷ 0 ∷ 0 ∷ []

-- the first 200 bytes: 24-63 codes, 64-103 fonts, 104-199 user characters of six bytes (code first)
unfoldable pub packed_of : Condition → List ℕ
packed_of c = head_of c ++ (c.codes ++ (c.fonts ++ c.users.bytes))

-- a kind, a code and a count of bytes held as a half-received command; a kind above 6 is as 6
abbrev pub pending_of : ℕ → ℕ → ℕ → Pending
pending_of kind code holds =
    cond (eqb kind 0) Nothing
    (cond (eqb kind 1) Escape
    (cond (eqb kind 2) Position
    (cond (eqb kind 3) Luminance
    (cond (eqb kind 4) Speed
    (cond (eqb kind 5) UserCode
    (UserData code holds))))))

-- the condition that stands in bytes, in range or not. The index does not stand there (02, W9): it is built from the list
unfoldable pub condition_in : List ℕ → Condition
condition_in s =
    record {
      codes = take 40 (drop 24 s);
      fonts = take 40 (drop 64 s);
      cursor = get_or s 3 0;
      mode = get_or s 4 0;
      scrolling = eqb (get_or s 5 0) 1;
      shown = eqb (get_or s 6 0) 1;
      font = get_or s 7 0;
      link = get_or s 8 0;
      euro = eqb (get_or s 9 0) 1;
      luminance = get_or s 10 0;
      speed = get_or s 11 0;
      flickerless = eqb (get_or s 12 0) 1;
      users = users_in (take 96 (drop 104 s)) (get_or s 20 0);
      index = index_of 256 (take 96 (drop 104 s)) (get_or s 20 0);
      pending = pending_of (get_or s 13 0) (get_or s 14 0) (get_or s 15 0);
      held = take 4 (drop 16 s);
    }

-- the same of any bytes: fewer than 200 hold no condition, and give power-up for font 0
unfoldable pub unpacked_of : List ℕ → Condition
unpacked_of s = cond (ltb (length s) 200) (power_up 0) (condition_in s)
