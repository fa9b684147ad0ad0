-- A run and the tally (document 01, Busy time and the tally; Refusal numbers and their order; document 02, W2).
use Rattle.std.specs.Prelude.{ℕ, ◌+◌, ◌≡◌, List, [], ◌∷◌, Bool, true, cond, not, ◌&&◌, length, eqb, ltb, leb, Result, Ok, Err}
use Rattle.refusals.specs.declared.Refusal.{Refusal}
use Rattle.refusals.specs.Refusals.{number_of, refusal_in}
use Rattle.condition.specs.declared.Condition.{Condition}
use Rattle.condition.specs.Condition.{well_formed}
use Rattle.condition.specs.Bytes.{run_of}
use Rattle.condition.specs.Busy.{busy_of, flickerless_of, worst_of}
use Rattle.interpreter.specs.declared.Tally.{Tally}
use Rattle.interpreter.specs.declared.Ran.{Ran as Accepted}

-- A run's answer in the paper's words: a refusal number, 0 when accepted, and the condition and the tally after it
pub record Ran : Type 0 where
  pub refusal : ℕ
  pub condition : Condition
  pub tally : Tally

-- Each is at most 4,000,000,000
abbrev pub limit : ℕ
limit = 4000000000

unfoldable pub within_limit : Tally → Bool
within_limit t = leb t.bytes limit && leb t.busy limit && leb t.flickerless limit && leb t.worst limit

-- the tally before any run
abbrev pub zero_tally : Tally
zero_tally = record { bytes = 0; busy = 0; flickerless = 0; worst = 0 }

-- A run adds to four numbers: bytes, busy, bytes received while flickerless was already on, and the worst total
unfoldable pub tallied : Tally → Condition → List ℕ → Tally
tallied t c bs =
    record {
      bytes = t.bytes + length bs;
      busy = t.busy + busy_of c bs;
      flickerless = t.flickerless + flickerless_of c bs;
      worst = t.worst + worst_of c bs;
    }

-- 3: condition not well formed, tally above its limit. 4: more than 32,768 bytes in a run. 5: a tally number would pass its limit
unfoldable pub run_refusal : Condition → Tally → List ℕ → ℕ
run_refusal c t bs =
    cond (not (well_formed c && within_limit t)) 3
    (cond (ltb 32768 (length bs)) 4
    (cond (not (within_limit (tallied t c bs))) 5 0))

-- a refused run returns the condition it got, and nothing lent changes
abbrev pub refused_of : ℕ → Condition → Tally → Ran
refused_of n c t = record { refusal = n; condition = c; tally = t }

-- the answer of a run on the condition c and the tally t
abbrev pub ran : Condition → Tally → Result Accepted Refusal → Ran
ran c t (Ok left) = record { refusal = 0; condition = left.condition; tally = left.tally }
ran c t (Err e) = refused_of (number_of e) c t

-- the same of a run on a condition and a tally that are lent, of what it leaves there, refused or not
abbrev pub ran_on : {A : Type 0} → Result A Refusal → Condition → Tally → Ran
ran_on r c t = record { refusal = refusal_in r; condition = c; tally = t }

abbrev pub accepted_of : Condition → Tally → List ℕ → Ran
accepted_of c t bs = record { refusal = 0; condition = run_of c bs; tally = tallied t c bs }

unfoldable pub run_answer : Condition → Tally → List ℕ → Ran
run_answer c t bs = cond (eqb (run_refusal c t bs) 0) (accepted_of c t bs) (refused_of (run_refusal c t bs) c t)

-- several runs, with pieces in turn: each starts from what the one before left, and a refused one is the last
unfoldable pub in_turn : Condition → Tally → List (List ℕ) → Ran
in_turn c t [] = record { refusal = 0; condition = c; tally = t }
in_turn c t (bs ∷ pieces) =
    cond (eqb (run_answer c t bs).refusal 0) (in_turn (run_answer c t bs).condition (run_answer c t bs).tally pieces)
    (run_answer c t bs)

-- The answer r of a run. An accepted run leaves a well-formed condition.
pub record RunPromise (c : Condition) (t : Tally) (bs : List ℕ) (r : Ran) : Type 0 where
  pub answer : r ≡ run_answer c t bs
  pub kept : r.refusal ≡ 0 → well_formed r.condition ≡ true

-- The same with the tally lent: after the run it holds the answer's.
pub record LentPromise (c : Condition) (t : Tally) (bs : List ℕ) (r : Ran) (after : Tally) : Type 0 where
  pub ran : RunPromise c t bs r
  pub stored : after ≡ r.tally
