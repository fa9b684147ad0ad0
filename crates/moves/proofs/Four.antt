-- The way is the shortest of the four kinds, the first of equals; and so the fewest move bytes are the least of their lengths.
use mathlib.Core.Path.{◌≡◌, refl, sym, ap, ◌∙◌}
use mathlib.Core.Logic.{◌≢◌}
use mathlib.Core.List.{List, []}
use Prim.Native.Nat.{ℕ, ◌+◌, ◌-◌, ◌%◌, ◌≤◌, ◌<◌, min}
use native.Mathlib.Omega.{arith}
use Rattle.std.specs.Ordering.{nat_cmp, ord_min}
use Rattle.std.proofs.lemmas.Bool.Decides.{nat_tests}
use lib.Dec.{eqb, leb}
use lib.ListN.{length, replicate, length-append, length-replicate}
use borrow.Author.Tests.{leb-true, leb-false, eqb-true, eqb-false}
use Rattle.laws.proofs.Tests.{by_cases}
use Rattle.row.specs.Row.{line_start}
use Rattle.moves.specs.Moves.{left, next, down, move, near1, near2, dist}
use Rattle.moves.specs.Ways.{leaves, first_byte, path_of, path}
use Rattle.moves.specs.Kinds.{line_of, column_of, apart, aside, onward, sideways, to_start, from_start, jump, shorter, of_four}
use Rattle.moves.proofs.Moving.{length-path}
use Rattle.moves.proofs.Grid.{listed, grid, same_at}

-- the lesser of two numbers, as `min` of the library answers it
pub min-is : (a b : ℕ) → ord_min nat_cmp a b ≡ min a b
min-is a b = grind (arith, nat_tests)

-- How long each is ----------------------------------------------------------------------------------------------------------------

pub onward-length : (a b : ℕ) → length (onward a b) ≡ (b + 40 - a) % 40
unfolding onward
onward-length a b = length-replicate _ _

pub sideways-length : (a b : ℕ) → length (sideways a b) ≡ apart (column_of a) (column_of b) + apart (line_of a) (line_of b)
unfolding sideways
sideways-length a b =
    let side : List ℕ = replicate (apart (column_of a) (column_of b)) (aside a b) in
    omega (
      arith,
      length-append side (replicate (apart (line_of a) (line_of b)) 0x0a),
      length-replicate {A = ℕ} (apart (column_of a) (column_of b)) (aside a b),
      length-replicate {A = ℕ} (apart (line_of a) (line_of b)) 0x0a,
    )

-- on one line, and from one to the other
pub sideways-within : (a b : ℕ) → line_of a ≡ line_of b → length (sideways a b) ≡ apart (column_of a) (column_of b)
sideways-within a b e = omega (arith, sideways-length a b)

lines-apart : (a b : ℕ) → a < 40 → b < 40 → line_of a ≢ line_of b → apart (line_of a) (line_of b) ≡ 1
lines-apart a b ha hb e = omega arith

pub sideways-across : (a b : ℕ) → a < 40 → b < 40 → line_of a ≢ line_of b
    → length (sideways a b) ≡ apart (column_of a) (column_of b) + 1
sideways-across a b ha hb e = sideways-length a b ∙ ap (λ (n : ℕ). apart (column_of a) (column_of b) + n) (lines-apart a b ha hb e)

pub start-sum : (a b : ℕ) → length (from_start a b) ≡ length (to_start a b) + column_of b
unfolding from_start
start-sum a b = length-append (to_start a b) (replicate (column_of b) 0x09) ∙ rw (length-replicate {A = ℕ} (column_of b) 0x09)

pub start-length : (a b : ℕ) → a < 40 → b < 40 → length (from_start a b) ≡ 1 + column_of b + (line_of b - line_of a)
unfolding from_start
start-length a b ha hb =
    let l = start-sum a b in
    by_cases (eqb (line_of b) 0) (λ e. rw e (omega (arith, rw e at l, eqb-true (line_of b) 0 e)))
    (λ e. by_cases (eqb (line_of a) 0)
    (λ z. rw (e, z) (omega (arith, rw (e, z) at l, eqb-true (line_of a) 0 z, eqb-false (line_of b) 0 e)))
    (λ z. rw (e, z) (omega (arith, rw (e, z) at l, eqb-false (line_of a) 0 z, eqb-false (line_of b) 0 e))))

-- forward to the other line by at most 18 the columns are two or more apart, so that sideways takes three or more
across-far : (a b : ℕ) → a < 20 → 20 ≤ b → b < a + 19 → 2 ≤ apart (column_of a) (column_of b)
across-far a b s t h = omega arith

-- The shorter of two --------------------------------------------------------------------------------------------------------------

shorter-length : (xs ys : List ℕ) → length (shorter xs ys) ≡ min (length xs) (length ys)
shorter-length xs ys =
    by_cases (leb (length xs) (length ys)) (λ e. rw e (omega (arith, leb-true (length xs) (length ys) e)))
    (λ e. rw e (omega (arith, leb-false (length xs) (length ys) e)))

-- a string that is the shorter of two is the first where that is as long, else the second
is-first : (p xs ys : List ℕ) → p ≡ shorter xs ys → length xs ≡ length p → p ≡ xs
is-first p xs ys e l =
    by_cases (leb (length xs) (length ys)) (λ t. e ∙ rw t)
    (λ t. absurd (omega (arith, l, ap length e, shorter-length xs ys, leb-false (length xs) (length ys) t)))

is-second : (p xs ys : List ℕ) → p ≡ shorter xs ys → length xs ≢ length p → p ≡ ys
is-second p xs ys e l =
    by_cases (leb (length xs) (length ys)) (λ t. absurd (l (rw (e, t)))) (λ t. e ∙ rw t)

-- The way -------------------------------------------------------------------------------------------------------------------------

-- computed for each place and each other, once
all_ways : grid path ≡ grid of_four
unfolding listed grid left next down line_start move near1 near2 dist leaves first_byte path_of path onward sideways from_start
    of_four
all_ways = refl

module _ (a b : ℕ) (ha : a < 40) (hb : b < 40) where
  abbrev after_sideways : List ℕ
  after_sideways = shorter (from_start a b) (jump b)

  abbrev after_onward : List ℕ
  after_onward = shorter (sideways a b) after_sideways

  four : path a b ≡ shorter (onward a b) after_onward
  unfolding of_four
  four = same_at path of_four [] all_ways a b ha hb

  pub dist-four : dist a b ≡ min (length (onward a b)) (min (length (sideways a b)) (min (length (from_start a b)) 3))
  dist-four =
      sym (length-path a b) ∙ ap length four
      ∙ rw (
        shorter-length (onward a b) after_onward,
        shorter-length (sideways a b) after_sideways,
        shorter-length (from_start a b) (jump b),
      )

  -- forward, by at most 18 and not to 20, no other kind is shorter than onward or the jump
  pub dist-forward : a ≤ b → b - a < 19 → b ≢ 20 → dist a b ≡ min (b - a) 3
  dist-forward up near n =
      let on : length (onward a b) ≡ b - a = omega (arith, onward-length a b) in
      let start : min (b - a) 3 ≤ length (from_start a b) = omega (arith, start-length a b ha hb) in
      let side : min (b - a) 3 ≤ length (sideways a b) =
      by_cases (eqb (line_of a) (line_of b))
      (λ e. let l = eqb-true (line_of a) (line_of b) e in omega (arith, l, sideways-within a b l))
      (λ e. let l = eqb-false (line_of a) (line_of b) e in
      let far = across-far a b (omega (arith, l)) (omega (arith, l)) (omega arith) in
      let three : 3 ≤ length (sideways a b) = rw (sideways-across a b ha hb l) (omega (arith, far)) in
      omega (arith, three)) in
      omega (arith, dist-four, on, start, side)

  -- the first kind that is as long as the way is the way
  pub by-onward : length (onward a b) ≡ length (path a b) → path a b ≡ onward a b
  by-onward = is-first (path a b) (onward a b) after_onward four

  module _ (n₁ : length (onward a b) ≢ length (path a b)) where
    past-onward : path a b ≡ after_onward
    past-onward = is-second (path a b) (onward a b) after_onward four n₁

    pub by-sideways : length (sideways a b) ≡ length (path a b) → path a b ≡ sideways a b
    by-sideways = is-first (path a b) (sideways a b) after_sideways past-onward

    module _ (n₂ : length (sideways a b) ≢ length (path a b)) where
      past-sideways : path a b ≡ after_sideways
      past-sideways = is-second (path a b) (sideways a b) after_sideways past-onward n₂

      pub by-start : length (from_start a b) ≡ length (path a b) → path a b ≡ from_start a b
      by-start = is-first (path a b) (from_start a b) (jump b) past-sideways

      pub by_jump : length (from_start a b) ≢ length (path a b) → path a b ≡ jump b
      by_jump = is-second (path a b) (from_start a b) (jump b) past-sideways
