-- The count of ones is the number of lit dots.
use Prim.Native.Nat.{ℕ, ◌+◌, ◌*◌, ◌/◌, ◌%◌, ◌<◌}
use mathlib.Core.Path.{◌≡◌, ap, ◌∙◌}
use native.Mathlib.Omega.{arith}
use native.Mathlib.Nat.{add-zero, zero-add, add_assoc, div-one, div-eq_of_lt, div-div-eq-div-mul}
use lib.Count.{ones, ones_step}
use Rattle.dots.specs.declared.Character.{Character}
use Rattle.dots.specs.Dots.{dot_of, lit_up_to, lit_of}

-- m, and the low three and the eight bits of a byte, low bit first
abbrev three : ℕ → ℕ → ℕ
three m n = m + n / 1 % 2 + n / 2 % 2 + n / 4 % 2

abbrev eight : ℕ → ℕ → ℕ
eight m n = three m n + n / 8 % 2 + n / 16 % 2 + n / 32 % 2 + n / 64 % 2 + n / 128 % 2

-- one bit, and the ones above it
above : (n m : ℕ) → ones (n / m) ≡ n / m % 2 + ones (n / (m * 2))
above n m = ones_step (n / m) ∙ ap (λ (x : ℕ). n / m % 2 + ones x) (div-div-eq-div-mul n m 2)

first : (n : ℕ) → ones n ≡ n / 1 % 2 + ones (n / 2)
first n = rw (div-one n) (ones_step n)

none : (n m : ℕ) → n < m → ones (n / m) ≡ 0
unfolding ones
none n m h = rw (div-eq_of_lt h)

-- m, and the ones of a byte
ones-eight : (m n : ℕ) → n < 256 → m + ones n ≡ eight m n
ones-eight m n h =
    rw (first n, above n 2, above n 4, above n 8, above n 16, above n 32, above n 64, above n 128, none n 256 h)
    (simp (add-zero, add_assoc))

-- the low three bits of a number and of its remainder by 8
low-1 : (n : ℕ) → n % 8 / 1 % 2 ≡ n / 1 % 2
low-1 n = omega arith

low-2 : (n : ℕ) → n % 8 / 2 % 2 ≡ n / 2 % 2
low-2 n = omega arith

low-4 : (n : ℕ) → n % 8 / 4 % 2 ≡ n / 4 % 2
low-4 n = omega arith

ones-three : (m n : ℕ) → m + ones (n % 8) ≡ three m n
ones-three m n =
    rw (first (n % 8), above (n % 8) 2, above (n % 8) 4, none (n % 8) 8 (omega arith), low-1 n, low-2 n, low-4 n)
    (simp (add-zero, add_assoc))

pub lit-law : (d : Character) → d.d1 < 256 → d.d2 < 256 → d.d3 < 256 → d.d4 < 256
    → ones d.d1 + ones d.d2 + ones d.d3 + ones d.d4 + ones (d.d5 % 8) ≡ lit_of d
unfolding lit_of lit_up_to dot_of
lit-law d h1 h2 h3 h4 =
    rw (
      ← zero-add (ones d.d1),
      ones-eight 0 d.d1 h1,
      ones-eight _ d.d2 h2,
      ones-eight _ d.d3 h3,
      ones-eight _ d.d4 h4,
      ones-three _ d.d5,
    )
