-- What the calls of the C host program on a block share: opening it, and an answer with its refusal as one number (document 01,
-- Refusal numbers and their order).
use Rattle.std.specs.Prelude.{ℕ, ◌+◌, Bool, cond, not, List, eqb, Result, Ok, Err}
use Rattle.refusals.specs.declared.Refusal.{Refusal}
use Rattle.refusals.specs.Refusals.{refusal_in}
use Rattle.condition.specs.Condition.{Outcome}
use Rattle.layout.specs.Layout.{condition_in}
use Rattle.block.specs.Reading.{read_refusal, damage_of, refused_of}
use Rattle.host.specs.declared.Base.{Base}
use Rattle.host.specs.declared.Base.TheVariants.{Plan, Question}

-- A block is looked at once ------------------------------------------------------------------------------------------------

-- the condition that stands in a block that is not damaged, well formed or not; as a refused reading, power-up for font 0
unfoldable pub opened_of : List ℕ → Outcome
opened_of b = cond (eqb (damage_of b) 0) (record { refusal = 0; condition = condition_in b }) (refused_of (damage_of b))

-- Every call on a block --------------------------------------------------------------------------------------------------

-- 1: a block not 512 bytes, or what else is lent not as long as it has to be; 2 and 3: as reading the block; then
-- n, which is what the call itself refuses by
unfoldable pub host_refusal_by : Bool → List ℕ → ℕ → ℕ
host_refusal_by long b n = cond (not long) 1 (cond (not (eqb (read_refusal b) 0)) (read_refusal b) n)

-- the base of the refusals: a plan or a recovery answers its length or 256 plus the refusal, a question its value or 65,536 plus
-- the refusal
abbrev pub base_of : Base → ℕ
base_of Plan = 256
base_of Question = 65536

-- the value of an answer, 0 where it is refused
abbrev pub value_in : Result ℕ Refusal → ℕ
value_in (Ok value) = value
value_in (Err refusal) = 0

-- an answer as one number: the value, or a base plus the refusal
unfoldable pub host_answer : Base → ℕ → ℕ → ℕ
host_answer base refusal value = cond (eqb refusal 0) value (base_of base + refusal)

-- the same of an answer of the code; a refused one has no value
abbrev pub answer_number : Base → Result ℕ Refusal → ℕ
answer_number base answer = host_answer base (refusal_in answer) (value_in answer)
