-- What bytes do to a condition, and what they spend.
use Rattle.std.specs.Prelude.{ℕ, cond, not, List, length, eqb, ltb, Result, Ok, Err}
use Rattle.refusals.specs.declared.Refusal.{Refusal}
use Rattle.refusals.specs.Refusals.{number_of}
use Rattle.condition.specs.declared.Condition.{Condition}
use Rattle.condition.specs.Condition.{well_formed}
use Rattle.condition.specs.Bytes.{run_of}
use Rattle.inplace.specs.InPlace.{spent_of}
use Rattle.inplace.specs.declared.Spent.{Spent}
use Rattle.inplace.specs.declared.After.{After as Accepted}

-- What carrying bytes out answers in the paper's words: a refusal number, 0 when accepted, the condition after them, and what they
-- spend
pub record After : Type 0 where
  pub refusal : ℕ
  pub condition : Condition
  pub spent : Spent

-- 3: condition not well formed. 4: more than 32,768 bytes
unfoldable pub carry_refusal : Condition → List ℕ → ℕ
carry_refusal c bs = cond (not (well_formed c)) 3 (cond (ltb 32768 (length bs)) 4 0)

-- refused: nothing is carried out
abbrev pub untouched_of : ℕ → Condition → After
untouched_of n c = record { refusal = n; condition = c; spent = record { busy = 0; flickerless = 0; worst = 0 } }

-- the answer for the condition c: a refused one has c, and nothing spent
abbrev pub after : Condition → Result Accepted Refusal → After
after c (Ok left) = record { refusal = 0; condition = left.condition; spent = left.spent }
after c (Err e) = untouched_of (number_of e) c

abbrev pub carried_of : Condition → List ℕ → After
carried_of c bs = record { refusal = 0; condition = run_of c bs; spent = spent_of c bs }

unfoldable pub after_of : Condition → List ℕ → After
after_of c bs = cond (eqb (carry_refusal c bs) 0) (carried_of c bs) (untouched_of (carry_refusal c bs) c)
