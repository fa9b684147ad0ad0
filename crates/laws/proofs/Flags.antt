-- A flag as a number, and back.
use Prim.Native.Nat.{ℕ, zero, suc, ◌≤◌}
use mathlib.Core.Path.{◌≡◌, refl}
use mathlib.Core.Bool.{Bool, true, false}
use native.Mathlib.Omega.{arith}
use lib.Dec.{eqb, leb}
use borrow.Author.Tests.{leb-true}
use Rattle.laws.specs.Flags.{flag}

pub flag-most : (t : Bool) → flag t ≤ 1
flag-most true = omega arith
flag-most false = omega arith

pub flag-back : (t : Bool) → eqb (flag t) 1 ≡ t
flag-back true = refl
flag-back false = refl

-- what is 0 or 1 is a flag
pub flag-fits : (x : ℕ) → leb x 1 ≡ true → flag (eqb x 1) ≡ x
flag-fits zero e = refl
flag-fits (suc zero) e = refl
flag-fits (suc (suc x)) e = absurd (omega (arith, leb-true (suc (suc x)) 1 e))
