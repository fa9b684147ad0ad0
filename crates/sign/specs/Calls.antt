-- What the C host program's calls answer and leave (document 01, Refusal numbers and their order): the same as reading the
-- block, running or planning, and writing back.
use Rattle.std.specs.Prelude.{ℕ, ◌+◌, ◌-◌, ◌*◌, ◌%◌, ◌/◌, ◌<◌, ◌≡◌, ◌↔◌, Bool, true, false, cond, not, ◌&&◌, length, get_or, take}
use Rattle.std.specs.Prelude.{drop, eqb, ltb, leb}
use mathlib.Core.List.{List, [], ◌∷◌, ◌++◌, flatten}
use Rattle.condition.specs.declared.Condition.{Condition}
use Rattle.condition.specs.Condition.{power_up}
use Rattle.condition.specs.Steps.{either_start}
use Rattle.layout.specs.Layout.{condition_in}
use Rattle.block.specs.Block.{block_of}
use Rattle.block.specs.Reading.{read_refusal}
use Rattle.host.specs.declared.Base.TheVariants.{Plan}
use Rattle.host.specs.Host.{host_refusal_by, host_answer}
use Rattle.interpreter.specs.declared.Tally.{Tally}
use Rattle.interpreter.specs.Run.{Ran, run_answer}
use Rattle.planner.specs.Plan.{Delivers}
use Rattle.planner.specs.Fonts.{FontsDelivers}
use Rattle.planner.specs.Clear.{either_plan, either_fonts_plan}
use Rattle.planner.specs.Answer.{plan_refusal, fonts_refusal, out_by}
use Rattle.reel.specs.Reel.{Stop, Reeled, Picture, pictures_of, plans_of, naming64, matching, first_refused, whole_refusal}
use Rattle.reel.specs.Reel.{written_by}
use Rattle.reel.specs.Reel.{lengths_of}
use Rattle.reel.specs.Reel.{reel_out, PicturesInTurn, Promise}
use Rattle.vetting.specs.Verdicts.{Verdict, Refused, Byte, Cell, Cursor, Yes}
use Rattle.vetting.specs.Vetting.{Gives, Exceeds, block_refusal, block_verdict}
use Rattle.recovery.specs.Recovery.{get_back, PowersUp, NoWayBack, recover_refusal}

-- The tally as four-byte numbers, low byte first -------------------------------------------------------------------------

abbrev pub number_at : List ℕ → ℕ → ℕ
number_at s at = get_or s at 0 + get_or s (at + 1) 0 * 256 + get_or s (at + 2) 0 * 65536 + get_or s (at + 3) 0 * 16777216

abbrev pub four_bytes : ℕ → List ℕ
four_bytes n = n / 1 % 256 ∷ n / 256 % 256 ∷ n / 65536 % 256 ∷ n / 16777216 % 256 ∷ []

unfoldable pub tally_at : List ℕ → Tally
tally_at s = record { bytes = number_at s 0; busy = number_at s 4; flickerless = number_at s 8; worst = number_at s 12 }

unfoldable pub tally_bytes : Tally → List ℕ
tally_bytes t = four_bytes t.bytes ++ (four_bytes t.busy ++ (four_bytes t.flickerless ++ four_bytes t.worst))

-- Run ---------------------------------------------------------------------------------------------------------------------

-- the run on what stands in the block and in the tally
abbrev pub ran_of : List ℕ → List ℕ → List ℕ → Ran
ran_of b t bs = run_answer (condition_in b) (tally_at t) bs

-- 1: a block not 512 bytes or a host tally not 16; 2 and 3: as reading the block; 3, 4, 5: as the run
unfoldable pub host_run_refusal : List ℕ → List ℕ → List ℕ → ℕ
host_run_refusal b t bs = host_refusal_by (eqb (length t) 16) b (ran_of b t bs).refusal

-- run changes the block and the tally together, or neither
unfoldable pub block_after : List ℕ → List ℕ → List ℕ → List ℕ
block_after b t bs = cond (eqb (host_run_refusal b t bs) 0) (block_of (ran_of b t bs).condition) b

unfoldable pub tally_after : List ℕ → List ℕ → List ℕ → List ℕ
tally_after b t bs = cond (eqb (host_run_refusal b t bs) 0) (tally_bytes (ran_of b t bs).tally) t

-- The answer r of a run, and the block and tally that it leaves. What is written back is accepted again.
pub record HostRun (b t bs : List ℕ) (r : ℕ) (b' t' : List ℕ) : Type 0 where
  pub answer : r ≡ host_run_refusal b t bs
  pub block : b' ≡ block_after b t bs
  pub tally : t' ≡ tally_after b t bs
  pub again : r ≡ 0 → read_refusal b' ≡ 0

-- Plan --------------------------------------------------------------------------------------------------------------------

-- 1: a block not 512 bytes or what is wanted not 40; 2 and 3: as reading the block; 3, 6 to 10: as the planner
unfoldable pub host_plan_refusal : List ℕ → List ℕ → ℕ → List ℕ → ℕ
host_plan_refusal b codes cursor out =
    host_refusal_by (eqb (length codes) 40) b (plan_refusal (condition_in b) codes cursor (length out))

unfoldable pub host_fonts_refusal : List ℕ → List ℕ → List ℕ → ℕ → List ℕ → ℕ
host_fonts_refusal b codes fonts cursor out =
    host_refusal_by (eqb (length codes) 40 && eqb (length fonts) 40) b
    (fonts_refusal (condition_in b) codes fonts cursor (length out))

-- The answer r of a plan, or of a recovery, which is its length or 256 plus the refusal, and what it leaves in the buffer, by its
-- refusal number and its bytes: a refused one leaves it as it was, and an answer below 256 says that so many bytes stand at its
-- start, which are what it is for
pub record HostPromise (number : ℕ) (bytes : List ℕ) (For : List ℕ → Type 0) (out : List ℕ) (r : ℕ) (left : List ℕ) : Type 0 where
  pub answer : r ≡ host_answer Plan number (length bytes)
  pub buffer : left ≡ out_by number bytes out
  pub delivers : r < 256 → For (take r left)

-- what `sign_plan` promises
abbrev pub HostPlan : List ℕ → List ℕ → ℕ → List ℕ → ℕ → List ℕ → Type 0
HostPlan b codes cursor out r left =
    HostPromise (host_plan_refusal b codes cursor out) (either_plan (condition_in b) codes cursor)
    (Delivers (either_start false) (condition_in b) codes cursor) out r left

-- what `sign_plan_fonts` promises
abbrev pub HostFonts : List ℕ → List ℕ → List ℕ → ℕ → List ℕ → ℕ → List ℕ → Type 0
HostFonts b codes fonts cursor out r left =
    HostPromise (host_fonts_refusal b codes fonts cursor out) (either_fonts_plan (condition_in b) codes fonts cursor)
    (FontsDelivers (either_start true) (condition_in b) codes fonts cursor) out r left

-- Reel --------------------------------------------------------------------------------------------------------------------

-- 1: a block not 512 bytes, or another length not right; 2 and 3: as reading the block; 3 and 10: as the whole reel. These name 64.
-- Then the first picture that would be refused
unfoldable pub reel_stop_by : Bool → List ℕ → List ℕ → List ℕ → ℕ → Stop
reel_stop_by long b codes cursors room =
    let n = host_refusal_by long b (whole_refusal (condition_in b) codes cursors room) in
    cond (eqb n 0) (first_refused 0 (condition_in b) (pictures_of codes cursors)) (naming64 n)

-- what a reel on a block promises, where 64 lengths are lent
abbrev pub ReelsIn : List ℕ → List ℕ → List ℕ → List ℕ → List ℕ → Reeled → Type 0
ReelsIn b codes cursors before after r =
    Promise (reel_stop_by (matching codes cursors) b codes cursors (length before)) (condition_in b)
    (pictures_of codes cursors) before
    after r

-- the lengths that have to be right: codes 40 for each asked cursor, and 64 lengths
unfoldable pub host_reel_stop : List ℕ → List ℕ → List ℕ → List ℕ → List ℕ → Stop
host_reel_stop b codes cursors lengths out =
    reel_stop_by (eqb (length lengths) 64 && matching codes cursors) b codes cursors (length out)

-- the answer as one number: all bytes together, or 65,536 plus 256 times the picture plus the refusal
unfoldable pub reel_number : Stop → ℕ → ℕ
reel_number stop bytes = cond (eqb stop.refusal 0) bytes (65536 + 256 * stop.picture + stop.refusal)

-- the lengths are part of the answer: written when accepted, and all 0 when refused, as long as their slice has 64 bytes
unfoldable pub lengths_after : Stop → List (List ℕ) → List ℕ → List ℕ
lengths_after stop plans lengths = cond (eqb (length lengths) 64) (lengths_of (written_by stop plans)) lengths

-- The answer r of a reel, by where it is refused, and the lengths and the buffer that it leaves. An answer below 65,536 says that
-- so many bytes stand at the buffer's start, and that the pictures come in turn by them
pub record HostReelPromise (stop : Stop) (c : Condition) (pictures : List Picture) (lent out : List ℕ) (r : ℕ) (told left : List ℕ)
    : Type 0 where
  pub answer : r ≡ reel_number stop (length (flatten (plans_of c pictures)))
  pub lengths : told ≡ lengths_after stop (plans_of c pictures) lent
  pub buffer : left ≡ reel_out stop (plans_of c pictures) out
  pub delivers : r < 65536 → PicturesInTurn c pictures told left

-- what `sign_reel` promises
abbrev pub HostReel : List ℕ → List ℕ → List ℕ → List ℕ → List ℕ → ℕ → List ℕ → List ℕ → Type 0
HostReel b codes cursors lent out r told left =
    HostReelPromise (host_reel_stop b codes cursors lent out) (condition_in b) (pictures_of codes cursors) lent out r told left

-- Vetting -----------------------------------------------------------------------------------------------------------------

-- a verdict as one number: 0 no, 1 plus the excess yes, 65,536 plus the refusal
abbrev pub vet_number : Verdict → ℕ
vet_number (Refused n) = 65536 + n
vet_number (Byte at) = 0
vet_number (Cell place) = 0
vet_number Cursor = 0
vet_number (Yes excess) = 1 + excess

-- What `sign_vet` promises: the number of the verdict on the string; 1 to 65,535 exactly where nothing is refused and the string
-- gives the picture; and then one less is its excess over the shortest
pub record HostVet (b codes : List ℕ) (cursor : ℕ) (string : List ℕ) (r : ℕ) : Type 0 where
  pub answer : r ≡ vet_number (block_verdict b codes cursor string)
  pub exactly : ((0 < r) × (r < 65536)) ↔ ((block_refusal b codes cursor string ≡ 0) × Gives (condition_in b) codes cursor string)
  pub excess : 0 < r → r < 65536 → Exceeds (condition_in b) codes cursor string (r - 1)

-- Recovery ----------------------------------------------------------------------------------------------------------------

-- 1: a block not 512 bytes; 2 and 3: as reading the block; then as recovery, 11 and only after it 10
unfoldable pub host_recover_refusal : List ℕ → List ℕ → ℕ
host_recover_refusal b out = host_refusal_by true b (recover_refusal (condition_in b) (length out))

-- What `sign_recover` promises: as a plan, of the eight bytes, which bring the module to power-up where it is accepted; and 267,
-- which is 256 plus 11, is answered exactly when, for a block that is accepted, no byte string at all does
pub record HostRecovers (b out : List ℕ) (r : ℕ) (left : List ℕ) : Type 0 where
  pub gives : HostPromise (host_recover_refusal b out) get_back (PowersUp (condition_in b)) out r left
  pub exactly : (r ≡ 267) ↔ ((read_refusal b ≡ 0) × NoWayBack (condition_in b))

-- Power-up ----------------------------------------------------------------------------------------------------------------

-- 3: font link above 1. 10: output under 512 bytes for a block
unfoldable pub host_power_up_refusal : ℕ → List ℕ → ℕ
host_power_up_refusal font out = cond (not (leb font 1)) 3 (cond (ltb (length out) 512) 10 0)

unfoldable pub host_power_up_out : ℕ → List ℕ → List ℕ
host_power_up_out font out = cond (eqb (host_power_up_refusal font out) 0) (block_of (power_up font) ++ drop 512 out) out

-- What is written is accepted by the other calls.
pub record HostPowerUp (font : ℕ) (out : List ℕ) (r : ℕ) (left : List ℕ) : Type 0 where
  pub answer : r ≡ host_power_up_refusal font out
  pub buffer : left ≡ host_power_up_out font out
  pub again : r ≡ 0 → read_refusal (take 512 left) ≡ 0
