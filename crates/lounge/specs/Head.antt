-- A condition as the tests hand it over: its rows as they are, and its other parts as 13 bytes, the head.
use Rattle.std.specs.Prelude.{ℕ, List, [], ◌∷◌, cond, get_or, take, drop, eqb}
use Rattle.laws.specs.Flags.{flag}
use Rattle.lounge.specs.declared.Lounge.{Lounge}
use Rattle.lounge.specs.declared.Pending.{Pending}
use Rattle.lounge.specs.declared.Pending.TheVariants.{Nothing, Escape, UserData, First, Second}

-- what is half received as a kind, a code and a number: the bytes held, or the first position
abbrev pub kind_of : Pending → ℕ
kind_of Nothing = 0
kind_of Escape = 1
kind_of (UserData code n) = 2
kind_of (First area) = 3
kind_of (Second area first) = 4

abbrev pub code_of : Pending → ℕ
code_of Nothing = 0
code_of Escape = 0
code_of (UserData code n) = code
code_of (First area) = area
code_of (Second area first) = area

abbrev pub number_of : Pending → ℕ
number_of Nothing = 0
number_of Escape = 0
number_of (UserData code n) = n
number_of (First area) = 0
number_of (Second area first) = first

abbrev pub pending_of : ℕ → ℕ → ℕ → Pending
pending_of kind code n =
    cond (eqb kind 0) Nothing
    (cond (eqb kind 1) Escape
    (cond (eqb kind 2) (UserData code n)
    (cond (eqb kind 3) (First code)
    (Second code n))))

-- 0 cursor, 1 mode, 2 scroll-on, 3 dimming, 4 last byte, 5 user count, 6 to 8 what is half received, 9 to 12 the bytes held
unfoldable pub head_of : Lounge → List ℕ
head_of c =
    c.cursor ∷ c.mode ∷ flag c.scrolling ∷ flag c.dimming ∷ c.last ∷ c.count ∷ kind_of c.pending ∷ code_of c.pending
    ∷ number_of c.pending ∷ get_or c.held 0 0 ∷ get_or c.held 1 0 ∷ get_or c.held 2 0 ∷ get_or c.held 3 0 ∷ []

-- the condition that stands in a head and three rows
unfoldable pub lounge_in : List ℕ → List ℕ → List ℕ → List ℕ → Lounge
lounge_in h codes marks us =
    record {
      codes = codes;
      marks = marks;
      cursor = get_or h 0 0;
      mode = get_or h 1 0;
      scrolling = eqb (get_or h 2 0) 1;
      dimming = eqb (get_or h 3 0) 1;
      last = get_or h 4 0;
      users = us;
      count = get_or h 5 0;
      pending = pending_of (get_or h 6 0) (get_or h 7 0) (get_or h 8 0);
      held = take 4 (drop 9 h);
    }
