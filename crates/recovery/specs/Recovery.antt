-- Getting a lost module back (document 02, W7).
use Rattle.std.specs.Prelude.{ℕ, ◌≡◌, ◌↔◌, Bool, true, false, cond, not, ◌||◌, List, [], ◌∷◌, ◌++◌, length, replicate, eqb, ltb}
use Rattle.users.specs.Users.{is_user}
use Rattle.condition.specs.declared.Condition.{Condition}
use Rattle.condition.specs.declared.Pending.{Pending}
use Rattle.condition.specs.declared.Pending.TheVariants.{Nothing, Escape, Position, Luminance, Speed, UserCode, UserData}
use Rattle.row.specs.Row.{all_up_to}
use Rattle.condition.specs.Condition.{well_formed, power_up}
use Rattle.condition.specs.Bytes.{run_of}
use Rattle.planner.specs.Answer.{Planned, Promise}

-- The way back --------------------------------------------------------------------------------------------------------------------

-- six 00h, then 1Bh 49h
unfoldable pub get_back : List ℕ
get_back = replicate 6 0x00 ++ 0x1b ∷ 0x49 ∷ []

-- the bytes bring the module to power-up for its default font
abbrev pub PowersUp : Condition → List ℕ → Type 0
PowersUp c bytes = run_of c bytes ≡ power_up c.link

-- no byte string at all ends in power-up
abbrev pub NoWayBack : Condition → Type 0
NoWayBack c = (bytes : List ℕ) → all_up_to 255 bytes ≡ true → PowersUp c bytes → ⊥

-- Refusals ------------------------------------------------------------------------------------------------------------------------

-- ESC is just being made a user character: user data for it is awaited, however much is held
abbrev pub makes_escape : Pending → Bool
makes_escape Nothing = false
makes_escape Escape = false
makes_escape Position = false
makes_escape Luminance = false
makes_escape Speed = false
makes_escape UserCode = false
makes_escape (UserData code n) = eqb code 0x1b

-- ESC has been made a user character, or is just being made one
unfoldable pub lost : Condition → Bool
lost c = is_user c.users 0x1b || makes_escape c.pending

-- 3: condition not well formed. Then 11: it is lost. Only after it 10: output under 8 bytes. room is the output's length
unfoldable pub recover_refusal : Condition → ℕ → ℕ
recover_refusal c room = cond (not (well_formed c)) 3 (cond (lost c) 11 (cond (ltb room 8) 10 0))

-- Answers -------------------------------------------------------------------------------------------------------------------------

-- What `recover` promises of its answer r and of the output at exit: as a planner, by its refusal number and the eight bytes, which
-- bring the module to power-up where it is accepted; and 11 is given exactly when, for a well-formed condition, no byte string at
-- all does
pub record Recovers (c : Condition) (before after : List ℕ) (r : Planned) : Type 0 where
  pub gives : Promise (recover_refusal c (length before)) get_back (PowersUp c) before after r
  pub exactly : (r.refusal ≡ 11) ↔ ((well_formed c ≡ true) × NoWayBack c)
