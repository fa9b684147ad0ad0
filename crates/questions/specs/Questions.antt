-- What the C host program is told of the glass (document 01, What a cell shows): the same as reading the block and asking.
use Rattle.std.specs.Prelude.{ℕ, ◌+◌, ◌≡◌, true, cond, List, eqb, Result}
use Rattle.refusals.specs.declared.Refusal.{Refusal}
use Rattle.condition.specs.declared.Condition.{Condition}
use Rattle.glass.specs.declared.Shows.{Shows}
use Rattle.glass.specs.declared.Shows.TheVariants.{Blank, User, Euro, BuiltIn}
use Rattle.glass.specs.Answers.{Seen, Answer, view_answer, dot_answer, underline_answer, lit_answer}
use Rattle.layout.specs.Layout.{condition_in}
use Rattle.host.specs.declared.Base.TheVariants.{Question}
use Rattle.host.specs.Host.{opened_of, host_refusal_by, host_answer, answer_number}

-- what a cell shows, as a number: 0 blank, 256 + code a user character, 512 Euro, 768 + code built-in in font 0, 1024 + code in
-- font 1
abbrev pub built_in_number : ℕ → ℕ → ℕ
built_in_number code font = cond (eqb font 0) (768 + code) (1024 + code)

abbrev pub shows_number : Shows → ℕ
shows_number Blank = 0
shows_number (User code) = 256 + code
shows_number Euro = 512
shows_number (BuiltIn code font) = built_in_number code font

-- a cell's view with that number for what it shows
abbrev pub viewed : Seen → Answer
viewed s = record { refusal = s.refusal; value = shows_number s.shows }

-- a question answers its value, or 65,536 plus the refusal. 1, 2 and 3: as reading the block; 3: as the question about the
-- condition that stands there
unfoldable pub host_asked : List ℕ → ℕ → ℕ → ℕ
host_asked b refusal value = host_answer Question (host_refusal_by true b refusal) value

abbrev pub host_told : List ℕ → Answer → ℕ
host_told b a = host_asked b a.refusal a.value

-- The number r that a question gives, by what it answers of a condition: asked of the condition that stands in a block, or what the
-- block is refused for
pub record Asked (Answers : Condition → Result ℕ Refusal → Type 0) (b : List ℕ) (r : ℕ) : Type 0 where
  pub whole : (opened_of b).refusal ≡ 0 → (value : Result ℕ Refusal) × (Answers (opened_of b).condition value)
      × (r ≡ answer_number Question value)
  pub damaged : ((opened_of b).refusal ≡ 0 → ⊥) → r ≡ host_answer Question (opened_of b).refusal 0

-- what the four questions answer
unfoldable pub host_view : List ℕ → ℕ → ℕ
host_view b position =
    host_asked b (view_answer (condition_in b) position).refusal (shows_number (view_answer (condition_in b) position).shows)

unfoldable pub host_dot : List ℕ → ℕ → ℕ → ℕ
host_dot b code k = host_told b (dot_answer (condition_in b) code k)

unfoldable pub host_underline : List ℕ → ℕ → ℕ
host_underline b code = host_told b (underline_answer (condition_in b) code)

unfoldable pub host_lit : List ℕ → ℕ → ℕ
host_lit b code = host_told b (lit_answer (condition_in b) code)
