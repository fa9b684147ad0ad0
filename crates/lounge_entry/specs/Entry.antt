-- What the tests' entry answers and leaves: a run and a view of a condition that stands in four slices.
use Rattle.std.specs.Prelude.{ℕ, Result, Ok, Err, ◌+◌, ◌≡◌, Bool, false, cond, ◌&&◌, List, length, eqb}
use Rattle.refusals.specs.declared.Refusal.{Refusal}
use Rattle.refusals.specs.declared.Refusal.TheVariants.{WrongLength}
use Rattle.lounge.specs.declared.Lounge.{Lounge}
use Rattle.lounge.specs.declared.Shows.{Shows}
use Rattle.lounge.specs.declared.Shows.TheVariants.{Blank, User, BuiltIn}
use Rattle.lounge.specs.declared.Level.{Level}
use Rattle.lounge.specs.declared.Level.TheVariants.{A, B}
use Rattle.lounge.specs.Head.{head_of, lounge_in}
use Rattle.lounge.specs.Run.{run_answer}
use Rattle.lounge.specs.Shows.{Seen, view_answer}

unfoldable pub sizes_right : List ℕ → List ℕ → List ℕ → List ℕ → Bool
sizes_right h codes marks us = eqb (length h) 13 && eqb (length codes) 40 && eqb (length marks) 40 && eqb (length us) 48

-- the condition that stands in four slices
unfoldable pub condition_in : List ℕ → List ℕ → List ℕ → List ℕ → Result Lounge Refusal
condition_in h codes marks us = cond (sizes_right h codes marks us) (Ok (lounge_in h codes marks us)) (Err WrongLength)

-- 1 for a slice of another length, else what the run is refused by
unfoldable pub refusal_in : List ℕ → List ℕ → List ℕ → List ℕ → List ℕ → ℕ
refusal_in h codes marks us bs = cond (sizes_right h codes marks us) (run_answer (lounge_in h codes marks us) bs).refusal 1

-- where it is accepted a slice holds its part of the condition after the run; refused, it stays
abbrev pub part_after : (Lounge → List ℕ) → List ℕ → List ℕ → List ℕ → List ℕ → List ℕ → List ℕ → List ℕ
part_after part h codes marks us bs before =
    cond (eqb (refusal_in h codes marks us bs) 0) (part (run_answer (lounge_in h codes marks us) bs).condition) before

pub record RunIn (h codes marks us bs h' codes' marks' us' : List ℕ) (r : ℕ) : Type 0 where
  pub answer : r ≡ refusal_in h codes marks us bs
  pub head-after : h' ≡ part_after head_of h codes marks us bs h
  pub codes-after : codes' ≡ part_after (λ c. c.codes) h codes marks us bs codes
  pub marks-after : marks' ≡ part_after (λ c. c.marks) h codes marks us bs marks
  pub users-after : us' ≡ part_after (λ c. c.users) h codes marks us bs us

-- 0 blank, 256 + code a user character, 768 + code a built-in one
abbrev pub shows_number : Shows → ℕ
shows_number Blank = 0
shows_number (User code) = 256 + code
shows_number (BuiltIn code) = 768 + code

-- 4,096 more at level B
abbrev pub level_number : Level → ℕ
level_number A = 0
level_number B = 4096

-- 8,192 more where it blinks, 16,384 where it is underlined; refused: 65,536 and the number
unfoldable pub seen_number : Seen → ℕ
seen_number s =
    cond (eqb s.refusal 0)
    (shows_number s.shows + level_number s.level + cond s.blinking 8192 0 + cond s.underlined 16384 0)
    (65536 + s.refusal)

-- what is seen of a cell of it; 1 for a slice of another length
unfoldable pub seen_in : List ℕ → List ℕ → List ℕ → List ℕ → ℕ → Seen
seen_in h codes marks us p =
    cond (sizes_right h codes marks us) (view_answer (lounge_in h codes marks us) p)
    (record { refusal = 1; shows = Blank; level = A; blinking = false; underlined = false })

unfoldable pub view_number : List ℕ → List ℕ → List ℕ → List ℕ → ℕ → ℕ
view_number h codes marks us p =
    cond (sizes_right h codes marks us) (seen_number (view_answer (lounge_in h codes marks us) p)) 65537
