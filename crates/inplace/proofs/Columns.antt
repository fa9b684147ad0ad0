-- Columns: what the code's tests of a place tell of the definitions' tests.
use Prim.Native.Nat.{ℕ, ◌%◌, ◌<◌}
use mathlib.Core.Path.{◌≡◌, sym, ◌∙◌}
use mathlib.Core.Bool.{true, false}
use native.Mathlib.Omega.{arith}
use lib.Dec.{eqb, ltb}
use borrow.Author.Tests.{lt-ltb, le-ltb, eq-eqb, ne_eqb, ltb-true, ltb-false}
use Rattle.laws.proofs.Tests.{by_cases}

-- of the places 0 to 39, column 19 are 19 and 39
pub at-19 : (x : ℕ) → x ≡ 19 → false ≡ ltb (x % 20) 19
at-19 x h = rw h

pub short-of-19 : (x : ℕ) → x < 40 → (x ≡ 19 → ⊥) → ltb x 39 ≡ ltb (x % 20) 19
short-of-19 x h k =
    by_cases (ltb x 39) (λ e. e ∙ sym (lt-ltb (x % 20) 19 (omega (arith, k, ltb-true x 39 e))))
    (λ e. e ∙ sym (le-ltb (x % 20) 19 (omega (arith, ltb-false x 39 e))))

-- a column that is not below 19 is 19
pub edge-column : (x : ℕ) → ltb (x % 20) 19 ≡ false → eqb (x % 20) 19 ≡ true
edge-column x e = eq-eqb (x % 20) 19 (omega (arith, ltb-false (x % 20) 19 e))

pub inner-column : (x : ℕ) → ltb (x % 20) 19 ≡ true → eqb (x % 20) 19 ≡ false
inner-column x e = ne_eqb (x % 20) 19 (λ q. omega (arith, ltb-true (x % 20) 19 e))
