-- What the queries answer (document 01, Refusal numbers and their order): a refusal number, 0 when accepted, and the value; a
-- refused query returns 0, blank for a cell's view.
use Rattle.std.specs.Prelude.{ℕ, cond, ◌&&◌, leb, Option, None, Some, Result, Ok, Err}
use Rattle.refusals.specs.declared.Refusal.{Refusal}
use Rattle.refusals.specs.Refusals.{number_of}
use Rattle.dots.specs.declared.Character.{Character}
use Rattle.users.specs.Users.{found_of, character_at}
use Rattle.dots.specs.Dots.{dot_of, underline_of, lit_of}
use Rattle.condition.specs.declared.Condition.{Condition}
use Rattle.glass.specs.declared.Shows.{Shows}
use Rattle.glass.specs.declared.Shows.TheVariants.{Blank}
use Rattle.condition.specs.Condition.{well_formed}
use Rattle.glass.specs.Shows.{shows_of}

-- what a query about a cell answers
pub record Seen : Type 0 where
  pub refusal : ℕ
  pub shows : Shows

-- what a question about a user character answers
pub record Answer : Type 0 where
  pub refusal : ℕ
  pub value : ℕ

-- the answers of the code, in the paper's words
abbrev pub seen : Result Shows Refusal → Seen
seen (Ok shows) = record { refusal = 0; shows = shows }
seen (Err refusal) = record { refusal = number_of refusal; shows = Blank }

abbrev pub answer : Result ℕ Refusal → Answer
answer (Ok value) = record { refusal = 0; value = value }
answer (Err refusal) = record { refusal = number_of refusal; value = 0 }

-- 3: condition not well formed, or position above 39
unfoldable pub view_answer : Condition → ℕ → Seen
view_answer c position =
    cond (well_formed c && leb position 39)
    (record { refusal = 0; shows = shows_of c position })
    (record { refusal = 3; shows = Blank })

abbrev pub refused : Answer
refused = record { refusal = 3; value = 0 }

-- the user character of a code. 3: condition not well formed, or user character asked for but not defined
unfoldable pub lookup_of : Condition → ℕ → Option ℕ
lookup_of c code = cond (well_formed c) (found_of c.users code) None

-- a question about the user character that a lookup found
abbrev pub asked_of : Option ℕ → Condition → (Character → ℕ) → Answer
asked_of None c ask = refused
asked_of (Some k) c ask = record { refusal = 0; value = ask (character_at c.users.bytes k) }

-- dot Pk of a user character: 1 where it is lit, else 0. 3: dot not 1-35
unfoldable pub dot_answer : Condition → ℕ → ℕ → Answer
dot_answer c code k = cond (leb 1 k && leb k 35) (asked_of (lookup_of c code) c (λ d. dot_of d k)) refused

-- the underline of a user character: 1 where it is lit, else 0
unfoldable pub underline_answer : Condition → ℕ → Answer
underline_answer c code = asked_of (lookup_of c code) c underline_of

-- how many of its 35 dots a user character lights
unfoldable pub lit_answer : Condition → ℕ → Answer
lit_answer c code = asked_of (lookup_of c code) c lit_of
