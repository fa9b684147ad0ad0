-- From every other condition the eight bytes lead to power-up: six 00h end what is half received, and ESC begins a command.
use mathlib.Core.Path.{◌≡◌, refl, ap, ◌∙◌}
use mathlib.Core.Bool.{true, false}
use mathlib.Core.List.{[], ◌∷◌, ◌++◌}
use Prim.Native.Nat.{ℕ, zero, suc, ◌-◌, ◌≤◌}
use native.Mathlib.Omega.{arith}
use lib.Dec.{eqb, ltb}
use lib.ListN.{length, replicate}
use borrow.Author.Tests.{eqb-false, ltb-true}
use Rattle.laws.proofs.Tests.{by-test, neither}
use Rattle.users.specs.Users.{is_user}
use Rattle.users.proofs.Places.{other-user}
use Rattle.condition.specs.declared.Condition.{Condition}
use Rattle.condition.specs.declared.Pending.{Pending}
use Rattle.condition.specs.declared.Pending.TheVariants.{Nothing, Escape, Position, Luminance, Speed, UserCode, UserData}
use Rattle.condition.specs.Condition.{well_formed, power_up}
use Rattle.condition.specs.Bytes.{is_char, write_of, control_of, escape_of, position_of, luminance_of, speed_of, data_of, step_at}
use Rattle.condition.specs.Bytes.{step_of}
use Rattle.condition.specs.Bytes.{run_of}
use Rattle.condition.proofs.Characters.{escaped}
use Rattle.condition.proofs.Aside.{write-aside, run-link}
use Rattle.condition.proofs.Good.{Good, good, Sized, room-16, step-sized}
use Rattle.condition.proofs.Kept.{step-good}
use Rattle.condition.proofs.Pieces.{run-append}
use Rattle.recovery.specs.Recovery.{get_back, PowersUp, makes_escape, lost}

-- how many 00h end a half-received command
abbrev waits : Pending → ℕ
waits Nothing = 0
waits Escape = 1
waits Position = 1
waits Luminance = 1
waits Speed = 1
waits UserCode = 6
waits (UserData code n) = suc (4 - n)

-- ESC is no user character and is not being made one, and k times 00h end what is half received
record Coming (k : ℕ) (c : Condition) : Type 0 where
  made : is_user c.users 0x1b ≡ false
  making : makes_escape c.pending ≡ false
  few : waits c.pending ≤ k

-- 00h brings it one nearer
module _ (k : ℕ) (c : Condition) (s : Sized c) (g : Good c) (o : Coming (suc k) c) where
  few-of : (p : Pending) → c.pending ≡ p → waits p ≤ suc k
  few-of p e = rw e at o.few

  data-nearer : (code n : ℕ) → c.pending ≡ UserData code n → Coming k (data_of c code n 0x00)
  unfolding data_of
  data-nearer code n e =
      let here : eqb code 0x1b ≡ false = rw e at o.making in
      let f : suc (4 - n) ≤ suc k = few-of (UserData code n) e in
      let other : 0x1b ≡ code → ⊥ = λ d. eqb-false code 0x1b here (omega arith) in
      by-test (Coming k) (ltb n 4)
      (λ t. record { made = o.made; making = here; few = omega (arith, ltb-true n 4 t) })
      (λ _. let r = room-16 c s in
      record {
        made = other-user c.users code c.held 0 (omega arith) 0x1b other (omega (arith, g.count-16)) o.made;
        making = refl;
        few = omega arith;
      })

  -- the command ends
  ended : (d : Condition) → d.users ≡ c.users → d.pending ≡ Nothing → Coming k d
  ended d u e = record { made = rw u o.made; making = rw e; few = rw e (omega arith) }

  nearer : Coming k (step_of c 0x00)
  unfolding step_at control_of escape_of position_of
  nearer = go c.pending refl
    where
      go : (p : Pending) → c.pending ≡ p → Coming k (step_at p c 0x00)
      go Nothing e =
          by-test (Coming k) (is_char c 0x00)
          (λ _. let a = write-aside c 0x00 in ended (write_of c 0x00) a.users (a.pending ∙ e))
          (λ _. ended c refl e)
      go Escape e = ended (escape_of c 0x00) refl refl
      go Position e = ended (position_of c 0x00) refl refl
      go Luminance e = ended (luminance_of c 0x00) refl refl
      go Speed e = ended (speed_of c 0x00) refl refl
      go UserCode e = record { made = o.made; making = refl; few = omega (arith, few-of UserCode e) }
      go (UserData code n) e = data-nearer code n e

zeros : (n : ℕ) (c : Condition) → Sized c → Good c → Coming n c → Coming 0 (run_of c (replicate n 0x00))
unfolding run_of
zeros zero c s g o = o
zeros (suc n) c s g o = zeros n (step_of c 0x00) (step-sized c 0x00 s) (step-good c 0x00 s (omega arith) g) (nearer n c s g o)

-- the longest wait is six
six : (p : Pending) → waits p ≤ 6
six Nothing = omega arith
six Escape = omega arith
six Position = omega arith
six Luminance = omega arith
six Speed = omega arith
six UserCode = omega arith
six (UserData code n) = omega arith

none-waited : (p : Pending) → waits p ≤ 0 → p ≡ Nothing
none-waited Nothing w = refl
none-waited Escape w = absurd (omega arith)
none-waited Position w = absurd (omega arith)
none-waited Luminance w = absurd (omega arith)
none-waited Speed w = absurd (omega arith)
none-waited UserCode w = absurd (omega arith)
none-waited (UserData code n) w = absurd (omega arith)

-- where nothing is awaited, 1Bh 49h is Initialise
initialised : (c : Condition) → Coming 0 c → PowersUp c (0x1b ∷ 0x49 ∷ [])
unfolding run_of step_at escape_of
initialised c o = rw (escaped c (none-waited c.pending o.few) o.made)

-- six 00h are enough, and so are more
behind-zeros : (n : ℕ) → 6 ≤ n → (c : Condition) → Sized c → well_formed c ≡ true → lost c ≡ false
    → PowersUp c (replicate n 0x00 ++ 0x1b ∷ 0x49 ∷ [])
unfolding lost
behind-zeros n h c s w f =
    let p = neither (is_user c.users 0x1b) (makes_escape c.pending) f in
    let most = six c.pending in
    let start : Coming n c = record { made = p.0; making = p.1; few = omega arith } in
    let d = run_of c (replicate n 0x00) in
    run-append c (replicate n 0x00) (0x1b ∷ 0x49 ∷ []) ∙ initialised d (zeros n c s (good c w) start)
    ∙ ap power_up (run-link c (replicate n 0x00))

-- `get_back` has enough of them
pub back : (c : Condition) → Sized c → well_formed c ≡ true → lost c ≡ false → PowersUp c get_back
unfolding get_back
back = behind-zeros (length get_back - 2) (omega arith)
