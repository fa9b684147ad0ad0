-- A run of pairs (document 02, W8): its refusals, its answer, and several runs in turn.
use Rattle.std.specs.Prelude.{ℕ, Result, Ok, Err, ◌/◌, ◌%◌, ◌≡◌, List, [], ◌∷◌, Bool, true, cond, not, ◌&&◌, length, eqb, ltb, leb}
use Rattle.refusals.specs.declared.Refusal.{Refusal}
use Rattle.refusals.specs.Refusals.{number_of}
use Rattle.lounge.specs.declared.Lounge.{Lounge}
use Rattle.lounge.specs.Condition.{well_formed}
use Rattle.lounge.specs.Pairs.{run_of}

-- a run's answer: a refusal number, 0 when accepted, and the condition after it
pub record Ran : Type 0 where
  pub refusal : ℕ
  pub condition : Lounge

-- what the code answers, in the paper's words: a refused run returns the condition c that it got
abbrev pub ran : Lounge → Result Lounge Refusal → Ran
ran c (Ok after) = record { refusal = 0; condition = after }
ran c (Err refusal) = record { refusal = number_of refusal; condition = c }

-- no kind is above 1
unfoldable pub kinds_formed : List ℕ → Bool
kinds_formed [] = true
kinds_formed (kind ∷ []) = true
kinds_formed (kind ∷ b ∷ pairs) = leb kind 1 && kinds_formed pairs

-- 1: an odd length. 3: a kind above 1 anywhere, or a condition that is not well formed. 4: above 32,768 pairs
unfoldable pub run_refusal : Lounge → List ℕ → ℕ
run_refusal c bs =
    cond (eqb (length bs % 2) 1) 1
    (cond (not (well_formed c && kinds_formed bs)) 3
    (cond (ltb 32768 (length bs / 2)) 4 0))

-- a refused run returns the condition it got
abbrev pub refused_of : ℕ → Lounge → Ran
refused_of n c = record { refusal = n; condition = c }

abbrev pub accepted_of : Lounge → List ℕ → Ran
accepted_of c bs = record { refusal = 0; condition = run_of c bs }

unfoldable pub run_answer : Lounge → List ℕ → Ran
run_answer c bs = cond (eqb (run_refusal c bs) 0) (accepted_of c bs) (refused_of (run_refusal c bs) c)

-- several runs, with pieces in turn: each starts from what the one before left, and a refused one is the last
unfoldable pub in_turn : Lounge → List (List ℕ) → Ran
in_turn c [] = refused_of 0 c
in_turn c (bs ∷ pieces) =
    cond (eqb (run_answer c bs).refusal 0) (in_turn (run_answer c bs).condition pieces) (run_answer c bs)

-- The answer r of a run. An accepted run leaves a well-formed condition.
pub record RunPromise (c : Lounge) (bs : List ℕ) (r : Ran) : Type 0 where
  pub answer : r ≡ run_answer c bs
  pub kept : r.refusal ≡ 0 → well_formed r.condition ≡ true
