-- A property that every command gives is one that a byte gives.
use mathlib.Core.Path.{◌≡◌, refl}
use mathlib.Core.Bool.{Bool, true, false}
use mathlib.Core.List.{List, [], ◌∷◌}
use Prim.Native.Nat.{ℕ, suc, ◌≤◌}
use native.Mathlib.Omega.{arith}
use lib.Dec.{eqb}
use lib.ListN.{get_or}
use borrow.Author.Tests.{eqb-true}
use Rattle.laws.proofs.Tests.{by-test}
use Rattle.condition.specs.declared.Condition.{Condition}
use Rattle.condition.specs.declared.Pending.{Pending}
use Rattle.condition.specs.declared.Pending.TheVariants.{Nothing, Escape, Position, Luminance, Speed, UserCode, UserData}
use Rattle.condition.specs.Condition.{held_of, power_up}
use Rattle.condition.specs.Set.{with_shown, with_font, with_euro, with_flickerless, with_pending}
use Rattle.condition.specs.Bytes.{left_of, right_of, down_of, home_of, return_of, clear_of, mode_of, international_of, write_of}
use Rattle.condition.specs.Bytes.{is_char, control_of, escape_of, position_of, luminance_of, speed_of, data_of, step_at, step_of}
use Rattle.condition.specs.Bytes.{run_of}

-- the property after each command, where the byte b comes to the condition c
pub record Commands (P : Condition → Type 0) (c : Condition) (b : ℕ) : Type 0 where
  pub write : P (write_of c b)
  pub left : P (left_of c)
  pub right : P (right_of c)
  pub down : P (down_of c)
  pub home : P (home_of c)
  pub return : P (return_of c)
  pub clear : P (clear_of c)
  pub mode : (m : ℕ) → 1 ≤ m → m ≤ 3 → P (mode_of c m)
  pub shown : (x : Bool) → P (with_shown c x)
  pub international : P (international_of c)
  pub katakana : P (with_font c 1)
  pub euro : P (with_euro c true)
  pub begin : c.pending ≡ Nothing → is_char c 0x1b ≡ false → P (with_pending c Escape)
  pub ignored : P c
  -- a byte after 1Bh that waits for more, or ends the command
  pub await : c.pending ≡ Escape → (p : Pending) → held_of p ≡ 0 → P (with_pending c p)
  pub initialise : c.pending ≡ Escape → b ≡ 0x49 → P (power_up c.link)
  pub steady : c.pending ≡ Escape → P (with_flickerless (with_pending c Nothing) true)
  pub position : c.pending ≡ Position → P (position_of c b)
  pub luminance : c.pending ≡ Luminance → P (luminance_of c b)
  pub speed : c.pending ≡ Speed → P (speed_of c b)
  pub code : c.pending ≡ UserCode → P (with_pending c (UserData b 0))
  pub user-data : (code n : ℕ) → c.pending ≡ UserData code n → P (data_of c code n b)

module _ (P : Condition → Type 0) (c : Condition) (b : ℕ) (k : Commands P c b) where
  control-by : c.pending ≡ Nothing → is_char c b ≡ false → P (control_of c b)
  unfolding control_of
  control-by e n =
      by-test P (eqb b 0x08) (λ _. k.left)
      (λ _. by-test P (eqb b 0x09) (λ _. k.right)
      (λ _. by-test P (eqb b 0x0a) (λ _. k.down)
      (λ _. by-test P (eqb b 0x0c) (λ _. k.home)
      (λ _. by-test P (eqb b 0x0d) (λ _. k.return)
      (λ _. by-test P (eqb b 0x0e) (λ _. k.clear)
      (λ _. by-test P (eqb b 0x0f) (λ _. k.clear)
      (λ _. by-test P (eqb b 0x11) (λ _. k.mode 1 (omega arith) (omega arith))
      (λ _. by-test P (eqb b 0x12) (λ _. k.mode 2 (omega arith) (omega arith))
      (λ _. by-test P (eqb b 0x13) (λ _. k.mode 3 (omega arith) (omega arith))
      (λ _. by-test P (eqb b 0x14) (λ _. k.shown false)
      (λ _. by-test P (eqb b 0x15) (λ _. k.shown true)
      (λ _. by-test P (eqb b 0x16) (λ _. k.shown false)
      (λ _. by-test P (eqb b 0x17) (λ _. k.shown false)
      (λ _. by-test P (eqb b 0x18) (λ _. k.international)
      (λ _. by-test P (eqb b 0x19) (λ _. k.katakana)
      (λ _. by-test P (eqb b 0x1a) (λ _. k.euro)
      (λ _. by-test P (eqb b 0x1b) (λ h. k.begin e (rw (eqb-true b 0x1b h) at n))
      (λ _. k.ignored))))))))))))))))))

  escape-by : c.pending ≡ Escape → P (escape_of c b)
  unfolding escape_of
  escape-by e =
      by-test P (eqb b 0x43) (λ _. k.await e UserCode refl)
      (λ _. by-test P (eqb b 0x48) (λ _. k.await e Position refl)
      (λ _. by-test P (eqb b 0x49) (λ h. k.initialise e (eqb-true b 0x49 h))
      (λ _. by-test P (eqb b 0x4c) (λ _. k.await e Luminance refl)
      (λ _. by-test P (eqb b 0x53) (λ _. k.steady e)
      (λ _. by-test P (eqb b 0x54) (λ _. k.await e Speed refl)
      (λ _. k.await e Nothing refl))))))

  pub step_by : P (step_of c b)
  unfolding step_at
  step_by = go c.pending refl
    where
      go : (p : Pending) → c.pending ≡ p → P (step_at p c b)
      go Nothing e = by-test P (is_char c b) (λ _. k.write) (λ n. control-by e n)
      go Escape e = escape-by e
      go Position e = k.position e
      go Luminance e = k.luminance e
      go Speed e = k.speed e
      go UserCode e = k.code e
      go (UserData code n) e = k.user-data code n e

-- a property that each byte of a run keeps, the run keeps
pub run_by : (P : Condition → Type 0) (Q : ℕ → Type 0) → ((c : Condition) (b : ℕ) → Q b → P c → P (step_of c b))
    → (c : Condition) (bs : List ℕ) → ((i : ℕ) → Q (get_or bs i 0)) → P c
    → P (run_of c bs)
unfolding run_of
run_by P Q f c [] q p = p
run_by P Q f c (b ∷ bs) q p = run_by P Q f (step_of c b) bs (λ i. q (suc i)) (f c b (q 0) p)
