-- A reel of pictures (document 02, W5): up to 64 pictures in turn, each with its asked cursor, from one start condition into one
-- output buffer. One-font planner only.
use Rattle.std.specs.Prelude.{ℕ, suc, ◌-◌, ◌*◌, ◌≡◌, Bool, false, cond, not, ◌&&◌, length, get_or, take, drop, replicate, eqb, ltb}
use Rattle.std.specs.Prelude.{leb, Result, Ok, Err}
use mathlib.Core.List.{List, [], ◌∷◌, ◌++◌, map, flatten}
use Rattle.condition.specs.declared.Condition.{Condition}
use Rattle.condition.specs.Condition.{well_formed}
use Rattle.condition.specs.Bytes.{run_of}
use Rattle.condition.specs.Steps.{either_start}
use Rattle.planner.specs.Plan.{at_start, Delivers}
use Rattle.planner.specs.Clear.{either_plan}
use Rattle.planner.specs.Answer.{plan_refusal}
use Rattle.refusals.specs.Refusals.{number_of}
use Rattle.reel.specs.declared.Stop.{Stop as StopTold}
use Rattle.reel.specs.declared.Reeled.{Reeled as ReeledTold}

-- One at a time -------------------------------------------------------------------------------------------------------------------

-- a picture: its codes and its asked cursor
pub record Picture : Type 0 where
  pub wanted : List ℕ
  pub asked : ℕ

-- the pictures: 40 codes for each asked cursor
unfoldable pub pictures_of : List ℕ → List ℕ → List Picture
pictures_of codes [] = []
pictures_of codes (asked ∷ cursors) = record { wanted = take 40 codes; asked = asked } ∷ pictures_of (drop 40 codes) cursors

-- the plan of a picture
abbrev pub plan_for : Condition → Picture → List ℕ
plan_for c p = either_plan c p.wanted p.asked

-- what the planner refuses it by; it has room for a plan
abbrev pub refusal_for : Condition → Picture → ℕ
refusal_for c p = plan_refusal c p.wanted p.asked 44

-- each plan starts where the one before leaves the module: planned and run one at a time
unfoldable pub plans_of : Condition → List Picture → List (List ℕ)
plans_of c [] = []
plans_of c (p ∷ ps) = plan_for c p ∷ plans_of (run_of c (plan_for c p)) ps

-- Refusals ------------------------------------------------------------------------------------------------------------------------

-- where a reel is refused: the picture, and its refusal number, 0 for none
pub record Stop : Type 0 where
  pub picture : ℕ
  pub refusal : ℕ

-- what is refused of the whole call, or of none, names 64
abbrev pub naming64 : ℕ → Stop
naming64 refusal = record { picture = 64; refusal = refusal }

-- the first picture that would be refused, with k pictures before these, and its refusal
unfoldable pub first_refused : ℕ → Condition → List Picture → Stop
first_refused k c [] = naming64 0
first_refused k c (p ∷ ps) =
    cond (eqb (refusal_for c p) 0) (first_refused (suc k) (run_of c (plan_for c p)) ps)
    (record { picture = k; refusal = refusal_for c p })

-- codes are 40 for each asked cursor
abbrev pub matching : List ℕ → List ℕ → Bool
matching codes cursors = eqb (length codes) (40 * length cursors)

-- 1: codes not 40 for each asked cursor. 3: more than 64, or a start not well formed. 10: output under 44 bytes for each picture.
-- room is the output's length
unfoldable pub whole_refusal : Condition → List ℕ → List ℕ → ℕ → ℕ
whole_refusal c codes cursors room =
    cond (not (matching codes cursors)) 1
    (cond (not (leb (length cursors) 64 && well_formed c)) 3
    (cond (ltb room (44 * length cursors)) 10
    0))

-- these come before any picture is looked at; then the first such picture, counted from 0
unfoldable pub stop_of : Condition → List ℕ → List ℕ → ℕ → Stop
stop_of c codes cursors room =
    cond (eqb (whole_refusal c codes cursors room) 0) (first_refused 0 c (pictures_of codes cursors))
    (naming64 (whole_refusal c codes cursors room))

-- Answers -------------------------------------------------------------------------------------------------------------------------

-- what a reel answers: where it is refused; all its bytes together, and the length of each plan, all 0 when refused
pub record Reeled : Type 0 where
  pub stop : Stop
  pub bytes : ℕ
  pub lengths : List ℕ

-- the plans that are written: if any picture would be refused, none
unfoldable pub written_by : Stop → List (List ℕ) → List (List ℕ)
written_by stop plans = cond (eqb stop.refusal 0) plans []

-- each length, of 64: 0 beyond the plans
unfoldable pub lengths_of : List (List ℕ) → List ℕ
lengths_of plans = map length plans ++ replicate (64 - length plans) 0

-- the answer, by the plans that are written: their bytes together, and each length
abbrev pub reeled_by : Stop → List (List ℕ) → Reeled
reeled_by stop written = record { stop = stop; bytes = length (flatten written); lengths = lengths_of written }

-- that is, refused: no bytes, and all lengths are 0
abbrev pub refused_at : Stop → Reeled
refused_at stop = record { stop = stop; bytes = 0; lengths = replicate 64 0 }

-- what the code answers, in these words: where it is refused, and whether it is; where nothing is, 64 is named, and 0
abbrev pub stopped : StopTold → Stop
stopped stop = record { picture = stop.picture; refusal = number_of stop.refusal }

abbrev pub stop_in : {A : Type 0} → Result A StopTold → Stop
stop_in (Ok x) = naming64 0
stop_in (Err stop) = stopped stop

abbrev pub reeled : Result ReeledTold StopTold → Reeled
reeled (Ok r) = record { stop = naming64 0; bytes = r.bytes; lengths = r.lengths }
reeled (Err stop) = refused_at (stopped stop)

-- the plans laid end to end at the buffer's start, and the rest of it as it was
abbrev pub reel_out : Stop → List (List ℕ) → List ℕ → List ℕ
reel_out stop plans out = at_start (flatten (written_by stop plans)) out

-- The pictures come in turn: the bytes of each, as many as its length says, are what a plan is for (demand 3), from where the bytes
-- before them leave the module. (What the lengths are is told by the answer)
unfoldable pub PicturesInTurn : Condition → List Picture → List ℕ → List ℕ → Type 0
PicturesInTurn c [] lengths bytes = Unit {0}
PicturesInTurn c (p ∷ ps) lengths bytes =
    Delivers (either_start false) c p.wanted p.asked (take (get_or lengths 0 0) bytes)
    × PicturesInTurn (run_of c (take (get_or lengths 0 0) bytes)) ps (drop 1 lengths) (drop (get_or lengths 0 0) bytes)

-- What a reel promises of its answer r and of the output at exit, by where it is refused: they are these for all inputs; and
-- where it is accepted, the pictures come in turn
pub record Promise (stop : Stop) (c : Condition) (pictures : List Picture) (before after : List ℕ) (r : Reeled) : Type 0 where
  pub answer : r ≡ reeled_by stop (written_by stop (plans_of c pictures))
  pub output : after ≡ reel_out stop (plans_of c pictures) before
  pub delivers : r.stop.refusal ≡ 0 → PicturesInTurn c pictures r.lengths after

-- what `reel` promises
abbrev pub Reels : Condition → List ℕ → List ℕ → List ℕ → List ℕ → Reeled → Type 0
Reels c codes cursors before after r =
    Promise (stop_of c codes cursors (length before)) c (pictures_of codes cursors) before after r
