-- A run in pieces and byte by byte, and how much a run can add to the tally.
use mathlib.Core.Path.{◌≡◌, refl, sym}
use mathlib.Core.Bool.{Bool, true, false, cond, ◌||◌}
use mathlib.Core.List.{List, [], ◌∷◌, ◌++◌}
use Prim.Native.Nat.{ℕ, ◌<◌, ◌≤◌, ◌+◌, ◌*◌}
use native.Mathlib.Omega.{arith}
use native.Mathlib.Nat.{zero-add, add_assoc}
use native.Mathlib.Numerals.{add-one}
use lib.Dec.{eqb, ltb}
use lib.ListN.{get_or, drop, length, drop_of_length-le}
use lib.Seq.{drop-cons}
use Rattle.laws.proofs.Tests.{by-test}
use Rattle.condition.specs.declared.Condition.{Condition}
use Rattle.condition.specs.declared.Pending.{Pending}
use Rattle.condition.specs.declared.Pending.TheVariants.{Nothing, Escape, Position, Luminance, Speed, UserCode, UserData}
use Rattle.laws.specs.Flags.{flag}
use Rattle.condition.specs.Bytes.{is_char, step_of, run_of}
use Rattle.condition.specs.Busy.{right_scrolls, down_scrolls, line_shifts, write_busy, control_busy, escape_busy, quick_at}
use Rattle.condition.specs.Busy.{total_of, quick_figure, worst_figure, while_on, busy_of, worst_of, flickerless_of}
use Rattle.laws.proofs.Flags.{flag-most}

-- One run or several with the same bytes in turn end alike ----------------------------------------------------------------

pub run-append : (c : Condition) (xs ys : List ℕ) → run_of c (xs ++ ys) ≡ run_of (run_of c xs) ys
unfolding run_of
run-append c [] ys = refl
run-append c (x ∷ xs) ys = run-append (step_of c x) xs ys

-- and what their bytes come to adds up, whatever is counted
pub total-append : (f : Condition → ℕ → ℕ) (c : Condition) (xs ys : List ℕ)
    → total_of f c (xs ++ ys) ≡ total_of f c xs + total_of f (run_of c xs) ys
unfolding run_of total_of
total-append f c [] ys = sym (zero-add (total_of f c ys))
total-append f c (x ∷ xs) ys = rw (total-append f (step_of c x) xs ys, add_assoc)

-- Byte by byte, over what is left of the bytes ----------------------------------------------------------------------------

pub run-turn : (c : Condition) (bs : List ℕ) (i : ℕ) → i < length bs
    → run_of (step_of c (get_or bs i 0)) (drop (i + 1) bs) ≡ run_of c (drop i bs)
unfolding run_of
run-turn c bs i h = rw (add-one, drop-cons bs i 0 h)

pub total-turn : (f : Condition → ℕ → ℕ) (c : Condition) (bs : List ℕ) (i : ℕ) → i < length bs
    → f c (get_or bs i 0) + total_of f (step_of c (get_or bs i 0)) (drop (i + 1) bs) ≡ total_of f c (drop i bs)
unfolding total_of
total-turn f c bs i h = rw (add-one, drop-cons bs i 0 h)

pub run-ended : (c : Condition) (bs : List ℕ) (i : ℕ) → length bs ≤ i → run_of c (drop i bs) ≡ c
unfolding run_of
run-ended c bs i h = rw (drop_of_length-le bs h)

pub total-ended : (f : Condition → ℕ → ℕ) (c : Condition) (bs : List ℕ) (i : ℕ) → length bs ≤ i → total_of f c (drop i bs) ≡ 0
unfolding total_of
total-ended f c bs i h = rw (drop_of_length-le bs h)

-- The most that a byte and a run add ---------------------------------------------------------------------------------------

abbrev Most : ℕ → Type 0
Most n = n ≤ 65

quick-most : (c : Condition) (b : ℕ) → quick_figure c b ≤ 65
unfolding quick_at write_busy control_busy escape_busy
quick-most c b = go c.pending
  where
    go : (p : Pending) → quick_at p c b ≤ 65
    go Nothing =
        by-test Most (is_char c b)
        (λ _. by-test Most (right_scrolls c || line_shifts c) (λ _. omega arith) (λ _. omega arith))
        (λ _. by-test Most (eqb b 0x09) (λ _. by-test Most (right_scrolls c) (λ _. omega arith) (λ _. omega arith))
        (λ _. by-test Most (eqb b 0x0a) (λ _. by-test Most (down_scrolls c) (λ _. omega arith) (λ _. omega arith))
        (λ _. by-test Most (eqb b 0x0e) (λ _. omega arith)
        (λ _. by-test Most (eqb b 0x0f) (λ _. omega arith) (λ _. omega arith)))))
    go Escape =
        by-test Most (eqb b 0x43) (λ _. omega arith)
        (λ _. by-test Most (eqb b 0x48) (λ _. omega arith)
        (λ _. by-test Most (eqb b 0x49) (λ _. omega arith)
        (λ _. by-test Most (eqb b 0x4c) (λ _. omega arith)
        (λ _. by-test Most (eqb b 0x54) (λ _. omega arith) (λ _. omega arith)))))
    go Position = omega arith
    go Luminance = omega arith
    go Speed = omega arith
    go UserCode = omega arith
    go (UserData code n) = by-test Most (ltb n 4) (λ _. omega arith) (λ _. omega arith)

worst-most : (c : Condition) (b : ℕ) → worst_figure c b ≤ 265
worst-most c b =
    let q = quick-most c b in
    by-test (λ (n : ℕ). n ≤ 265) c.flickerless (λ _. omega (arith, q)) (λ _. omega (arith, q))

total-most : (f : Condition → ℕ → ℕ) (m : ℕ) → ((c : Condition) (b : ℕ) → f c b ≤ m)
    → (c : Condition) (bs : List ℕ) → total_of f c bs ≤ m * length bs
unfolding total_of
total-most f m h c [] = omega arith
total-most f m h c (b ∷ bs) = omega (arith, h c b, total-most f m h (step_of c b) bs)

pub run-most : (c : Condition) (bs : List ℕ)
    → (busy_of c bs ≤ 65 * length bs) × (flickerless_of c bs ≤ 1 * length bs) × (worst_of c bs ≤ 265 * length bs)
run-most c bs = (
  total-most quick_figure 65 quick-most c bs,
  total-most while_on 1 (λ c _. flag-most c.flickerless) c bs,
  total-most worst_figure 265 worst-most c bs,
)

-- The worst busy time is the quick one, and 200 more for each byte that came while flickerless was on

longer : (q : ℕ) (on : Bool) → cond on (q + 200) q ≡ q + 200 * flag on
longer q true = refl
longer q false = omega arith

pub worst-law : (c : Condition) (bs : List ℕ) → worst_of c bs ≡ busy_of c bs + 200 * flickerless_of c bs
unfolding total_of
worst-law c [] = refl
worst-law c (b ∷ bs) = omega (arith, longer (quick_figure c b) c.flickerless, worst-law (step_of c b) bs)
