-- What the functions cite: a character has five bytes, and dots 1 to 35.
use Prim.Native.Nat.{ℕ, ◌-◌, ◌/◌, ◌^◌, ◌%◌, ◌<◌, ◌≤◌}
use mathlib.Core.Path.{◌≡◌, sym}
use mathlib.Core.Logic.{◌⊎◌, inl, inr}
use mathlib.Core.List.{[], ◌∷◌}
use native.Mathlib.Omega.{arith}
use lib.ListN.{get_or-eq_default}
use borrow.Author.Tests.{le-leb, lt-leb}
use Rattle.dots.specs.declared.Character.{Character}
use Rattle.dots.specs.Dots.{byte_of, dot_of}

-- there is no sixth byte
pub byte_past : (d : Character) (i : ℕ) → 5 ≤ i → 0 ≡ byte_of d i
byte_past d i h = sym (get_or-eq_default (d.d1 ∷ d.d2 ∷ d.d3 ∷ d.d4 ∷ d.d5 ∷ []) 0 h)

-- the dots are 1 to 35
pub no-dot : (d : Character) (k : ℕ) → (k < 1) ⊎ (35 < k) → 0 ≡ dot_of d k
unfolding dot_of
no-dot d k (inl h) = rw (lt-leb 1 k h)
no-dot d k (inr h) = rw (le-leb 1 k (omega arith), lt-leb k 35 h)

pub dot-law : (d : Character) (k : ℕ) → 1 ≤ k → k ≤ 35 → byte_of d ((k - 1) / 8) / 2 ^ ((k - 1) % 8) % 2 ≡ dot_of d k
unfolding dot_of
dot-law d k h l = rw (le-leb 1 k h, le-leb k 35 l)
