-- What the planners answer (document 01, Refusal numbers and their order; document 02, W1 and W4).
use Rattle.std.specs.Prelude.{ℕ, ◌≡◌, List, [], ◌∷◌, Bool, true, false, cond, not, ◌&&◌, ◌||◌, length, take, eqb, ltb, leb}
use Rattle.std.specs.Prelude.{Result, Ok, Err}
use Rattle.users.specs.declared.Users.{Users}
use Rattle.users.specs.Users.{is_user}
use Rattle.condition.specs.declared.Condition.{Condition}
use Rattle.row.specs.Row.{all_up_to}
use Rattle.condition.specs.Condition.{idle, well_formed}
use Rattle.condition.specs.Steps.{either_start}
use Rattle.refusals.specs.declared.Refusal.{Refusal}
use Rattle.refusals.specs.Refusals.{number_of}
use Rattle.planner.specs.Plan.{at_start, Delivers}
use Rattle.planner.specs.Fonts.{FontsDelivers}
use Rattle.planner.specs.Clear.{either_plan, either_fonts_plan}

-- Refusals ------------------------------------------------------------------------------------------------------------------------

-- 8: user character on 08h, 09h, 0Ah, 0Ch, 0Dh or 1Bh
unfoldable pub on_move : Users → Bool
on_move u = is_user u 0x08 || is_user u 0x09 || is_user u 0x0a || is_user u 0x0c || is_user u 0x0d || is_user u 0x1b

-- in the planner for two fonts 8 also for 18h, 19h or 1Ah
unfoldable pub on_switch : Users → Bool
on_switch u = is_user u 0x18 || is_user u 0x19 || is_user u 0x1a

-- 9: a wanted code below 20h has no user character
unfoldable pub lacks : Users → ℕ → Bool
lacks u code = ltb code 0x20 && not (is_user u code)

unfoldable pub some_lacks : Users → List ℕ → Bool
some_lacks u [] = false
some_lacks u (w ∷ ws) = lacks u w || some_lacks u ws

-- the lowest refusal number that holds, 0 for none. What differs between the planners: whether the lengths are right, what they are
-- asked is in range, a user character sits on the code of a step, and the output is too short
unfoldable pub refusal_by : Bool → Bool → Bool → Bool → Condition → List ℕ → ℕ
refusal_by long ranged blocked short c wanted =
    cond (not long) 1
    (cond (not (well_formed c && ranged)) 3
    (cond (not (idle c.pending)) 6
    (cond (not (eqb c.mode 1)) 7
    (cond blocked 8
    (cond (some_lacks c.users wanted) 9
    (cond short 10
    0))))))

-- 1: wanted codes not 40. 3: asked cursor above 39. 10: output under 44 bytes. room is the output's length
unfoldable pub plan_refusal : Condition → List ℕ → ℕ → ℕ → ℕ
plan_refusal c wanted asked room = refusal_by (eqb (length wanted) 40) (leb asked 39) (on_move c.users) (ltb room 44) c wanted

-- for two fonts 1 also for fonts not 40, 3 for a font above 1, 10 under 104 bytes
unfoldable pub fonts_refusal : Condition → List ℕ → List ℕ → ℕ → ℕ → ℕ
fonts_refusal c wanted fonts asked room =
    refusal_by (eqb (length wanted) 40 && eqb (length fonts) 40) (leb asked 39 && all_up_to 1 fonts)
    (on_move c.users || on_switch c.users) (ltb room 104) c wanted

-- Answers -------------------------------------------------------------------------------------------------------------------------

-- what a planner, or a recovery, answers: a refusal number, 0 when accepted, and the plan's length, 0 when refused
pub record Planned : Type 0 where
  pub refusal : ℕ
  pub length : ℕ

-- an answer in these words
abbrev pub planned : Result ℕ Refusal → Planned
planned (Ok n) = record { refusal = 0; length = n }
planned (Err e) = record { refusal = number_of e; length = 0 }

-- the bytes of a plan; a refused plan has length 0
unfoldable pub bytes_by : ℕ → List ℕ → List ℕ
bytes_by refusal bytes = cond (eqb refusal 0) bytes []

abbrev pub answer_by : ℕ → List ℕ → Planned
answer_by refusal bytes = record { refusal = refusal; length = length (bytes_by refusal bytes) }

-- an accepted plan changes only its own bytes at the buffer's start; a refused one nothing
abbrev pub out_by : ℕ → List ℕ → List ℕ → List ℕ
out_by refusal bytes out = at_start (bytes_by refusal bytes) out

-- What a planner, or a recovery, promises of its answer r and of the output at exit: they are these for all inputs, by its refusal
-- number and its bytes; and the bytes of an accepted one, which stand at the output's start, are what it is for
pub record Promise (number : ℕ) (bytes : List ℕ) (For : List ℕ → Type 0) (before after : List ℕ) (r : Planned) : Type 0 where
  pub answer : r ≡ answer_by number bytes
  pub output : after ≡ out_by number bytes before
  pub delivers : r.refusal ≡ 0 → For (take r.length after)

-- what `plan` promises
abbrev pub Plans : Condition → List ℕ → ℕ → List ℕ → List ℕ → Planned → Type 0
Plans c wanted asked before after r =
    Promise (plan_refusal c wanted asked (length before)) (either_plan c wanted asked)
    (Delivers (either_start false) c wanted asked) before after r

-- what `plan_fonts` promises
abbrev pub PlansFonts : Condition → List ℕ → List ℕ → ℕ → List ℕ → List ℕ → Planned → Type 0
PlansFonts c wanted fonts asked before after r =
    Promise (fonts_refusal c wanted fonts asked (length before)) (either_fonts_plan c wanted fonts asked)
    (FontsDelivers (either_start true) c wanted fonts asked) before after r

-- what `count` promises: the answer of `plan` where its output has room for any plan
abbrev pub Counts : Condition → List ℕ → ℕ → Planned → Type 0
Counts c wanted asked r = r ≡ answer_by (plan_refusal c wanted asked 44) (either_plan c wanted asked)
