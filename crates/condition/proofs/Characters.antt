-- Which bytes are characters (document 01, What a byte does): 20h-FFh, and a user code. 1Bh, where it is none, begins a command.
use Prim.Native.Nat.{ℕ, ◌≤◌, ◌<◌}
use mathlib.Core.Path.{◌≡◌}
use mathlib.Core.Bool.{true, false, or-true}
use lib.Dec.{leb}
use borrow.Author.Tests.{le-leb, lt-leb}
use Rattle.laws.proofs.Tests.{neither}
use Rattle.users.specs.Users.{is_user}
use Rattle.condition.specs.declared.Condition.{Condition}
use Rattle.condition.specs.declared.Pending.TheVariants.{Nothing, Escape}
use Rattle.condition.specs.Set.{with_pending}
use Rattle.condition.specs.Bytes.{is_char, control_of, step_at, step_of}

module _ (c : Condition) (b : ℕ) where
  pub plain-char : 0x20 ≤ b → is_char c b ≡ true
  unfolding is_char
  plain-char h = rw (le-leb 0x20 b h) (or-true (is_user c.users b))

  pub user-char : is_user c.users b ≡ true → is_char c b ≡ true
  unfolding is_char
  user-char e = rw e

  pub no_char : is_user c.users b ≡ false → b < 0x20 → is_char c b ≡ false
  unfolding is_char
  no_char e l = rw (e, lt-leb 0x20 b l)

  -- a byte that is no character is no user code
  pub no-user : is_char c b ≡ false → is_user c.users b ≡ false
  unfolding is_char
  no-user e = (neither (is_user c.users b) (leb 0x20 b) e).0

-- with nothing half received, and 1Bh no user code, 1Bh begins a command
pub escaped : (c : Condition) → c.pending ≡ Nothing → is_user c.users 0x1b ≡ false → step_of c 0x1b ≡ with_pending c Escape
unfolding step_at is_char control_of
escaped c e u = rw (e, u)
