-- What lies beyond the pairs that a run may have (document 02, W8). It cannot be run, but it decides what the run is refused by: 1
-- for an odd length comes before 3 for a kind above 1 anywhere, and 3 before 4. So of it only this is kept.
use Rattle.std.specs.Prelude.{ℕ, Option, None, Some, ◌%◌, ◌≡◌, Bool, true, false, cond, not, ◌||◌, List, [], ◌∷◌, ◌++◌, length, eqb}
use Rattle.lounge.specs.Condition.{reset_of}
use Rattle.lounge.specs.Run.{Ran, kinds_formed, refused_of, run_answer}
use Rattle.show_lounge.specs.declared.Rest as kept

abbrev pub is_some : List ℕ → Bool
is_some [] = false
is_some (b ∷ bs) = true

-- what is kept of it: whether there is any, whether its length is odd, and whether a kind is above 1
pub record Rest : Type 0 where
  pub some : Bool
  pub odd : Bool
  pub wrong : Bool

-- what the code keeps of it
abbrev pub known : Option kept.Rest → Rest
known None = record { some = false; odd = false; wrong = false }
known (Some rest) = record { some = true; odd = rest.odd; wrong = rest.wrong }

-- whether there is any, whether its length is odd, and whether a kind is above 1
unfoldable pub rest_of : List ℕ → Rest
rest_of bs = record { some = is_some bs; odd = eqb (length bs % 2) 1; wrong = not (kinds_formed bs) }

-- a piece more, where what was there before is whole pairs
unfoldable pub more_of : Rest → List ℕ → Rest
more_of rest bs =
    record {
      some = rest.some || is_some bs;
      odd = eqb (length bs % 2) 1;
      wrong = rest.wrong || not (kinds_formed bs);
    }

-- what a run from reset of the first bytes and the rest answers: where there is a rest, the first bytes are as many as a run may
-- have
unfoldable pub ran_with : List ℕ → Rest → Ran
ran_with first rest =
    cond rest.some
    (refused_of (cond rest.odd 1 (cond (rest.wrong || not (kinds_formed first)) 3 4)) reset_of)
    (run_answer reset_of first)

-- the first bytes are all that was read, or as many as a run may have
abbrev pub Fits : List ℕ → List ℕ → Type 0
Fits first bs = is_some bs ≡ true → length first ≡ 65536

-- What is answered for the first bytes and the rest is what a run of all of them answers.
pub record RanAll (first : List ℕ) (rest : Rest) (r : Ran) : Type 0 where
  pub answer : r ≡ ran_with first rest
  pub whole : (bs : List ℕ) → Fits first bs → rest ≡ rest_of bs → r ≡ run_answer reset_of (first ++ bs)

-- What is kept of a piece more, and that it is kept of all of them.
pub record Keeps (rest : Rest) (bs : List ℕ) (r : Rest) : Type 0 where
  pub answer : r ≡ more_of rest bs
  pub whole : (before : List ℕ) → length before % 2 ≡ 0 → rest ≡ rest_of before → r ≡ rest_of (before ++ bs)

-- What was read beyond the first n bytes, whatever it was: it is kept of all of it, and there is none unless these are as many as a
-- run may have.
pub record ReadBeyond (n : ℕ) (rest : Rest) : Type 0 where
  pub beyond : List ℕ
  pub kept : rest ≡ rest_of beyond
  pub only : is_some beyond ≡ true → n ≡ 65536
