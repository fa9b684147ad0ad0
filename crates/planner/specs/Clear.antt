-- Start from a clear (document 02, W4): what the planners give.
use Rattle.std.specs.Prelude.{ℕ, List, [], ◌∷◌, ◌++◌, Bool, true, false, cond, not, ◌&&◌, length, ltb}
use Rattle.users.specs.Users.{is_user}
use Rattle.condition.specs.declared.Condition.{Condition}
use Rattle.condition.specs.Bytes.{clear_of}
use Rattle.planner.specs.Plan.{plan}
use Rattle.planner.specs.Fonts.{fonts_plan}

-- the first byte: 0Eh, or none
abbrev pub clearing : Bool → List ℕ
clearing clear = cond clear (0x0e ∷ []) []

-- what the rest of the plan starts from: after 0Eh cells that are 20h in the selected font, and the cursor where it was
abbrev pub start_of : Bool → Condition → Condition
start_of clear c = cond clear (clear_of c) c

-- a plan with the clear, or without it; `from` gives the one without it, from any condition
abbrev pub plan_by : (Condition → List ℕ) → Bool → Condition → List ℕ
plan_by from clear c = clearing clear ++ from (start_of clear c)

-- when a user character sits on 0Eh the clear is not considered
abbrev pub may_clear : Condition → Bool
may_clear c = not (is_user c.users 0x0e)

-- the plan without the clear wins a tie
unfoldable pub clear_wins : (Condition → List ℕ) → Condition → Bool
clear_wins from c = may_clear c && ltb (length (plan_by from true c)) (length (plan_by from false c))

-- what a planner gives
unfoldable pub either_by : (Condition → List ℕ) → Condition → List ℕ
either_by from c = plan_by from (clear_wins from c) c

-- in one font
abbrev pub either_plan : Condition → List ℕ → ℕ → List ℕ
either_plan c wanted asked = either_by (λ d. plan d wanted asked) c

-- in two fonts
abbrev pub fonts_by : Bool → Condition → List ℕ → List ℕ → ℕ → List ℕ
fonts_by clear c wanted fonts asked = plan_by (λ d. fonts_plan d wanted fonts asked) clear c

abbrev pub either_fonts_plan : Condition → List ℕ → List ℕ → ℕ → List ℕ
either_fonts_plan c wanted fonts asked = either_by (λ d. fonts_plan d wanted fonts asked) c
