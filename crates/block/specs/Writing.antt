-- What writing a block answers, and what it leaves in the buffer (document 01, Refusal numbers and their order).
use Rattle.std.specs.Prelude.{ℕ, ◌≡◌, List, ◌++◌, Result, Ok, Err, cond, not, length, take, drop, eqb, ltb}
use Rattle.condition.specs.declared.Condition.{Condition}
use Rattle.condition.specs.Condition.{well_formed}
use Rattle.refusals.specs.declared.Refusal.{Refusal}
use Rattle.refusals.specs.Refusals.{number_of}
use Rattle.block.specs.Block.{block_of}
use Rattle.block.specs.Reading.{read_answer}

-- what writing a block answers: a refusal number, 0 when accepted, and the length written
pub record Written : Type 0 where
  pub refusal : ℕ
  pub length : ℕ

-- the code's answer in these words
abbrev pub written : Result ℕ Refusal → Written
written (Ok n) = record { refusal = 0; length = n }
written (Err refusal) = record { refusal = number_of refusal; length = 0 }

-- 3: condition not well formed. 10: output under 512 bytes for a block
unfoldable pub write_refusal : Condition → List ℕ → ℕ
write_refusal c out = cond (not (well_formed c)) 3 (cond (ltb (length out) 512) 10 0)

-- a refused block has length 0
unfoldable pub write_answer : Condition → List ℕ → Written
write_answer c out =
    record { refusal = write_refusal c out; length = cond (eqb (write_refusal c out) 0) 512 0 }

-- nothing lent changes; an accepted block changes only its own bytes at the buffer's start
unfoldable pub write_out : Condition → List ℕ → List ℕ
write_out c out = cond (eqb (write_refusal c out) 0) (block_of c ++ drop 512 out) out

-- The answer r of a writing, and the buffer that it leaves. What is written is read back as the same condition.
pub record WritePromise (c : Condition) (out : List ℕ) (r : Written) (left : List ℕ) : Type 0 where
  pub answer : r ≡ write_answer c out
  pub buffer : left ≡ write_out c out
  pub back : r.refusal ≡ 0 → read_answer (take 512 left) ≡ record { refusal = 0; condition = c }
