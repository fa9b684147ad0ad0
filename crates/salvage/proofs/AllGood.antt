-- The second file: every block of it is good, and there is nothing left to change in it.
use Prim.Native.Nat.{ℕ, zero, suc, ◌*◌, ◌<◌}
use mathlib.Core.Path.{◌≡◌, refl, ap, ◌∙◌}
use mathlib.Core.Bool.{Bool, true, not}
use mathlib.Core.List.{List}
use native.Mathlib.Omega.{arith}
use lib.ListN.{length}
use borrow.Author.Tests.{eq-eqb, eqb-true}
use Rattle.laws.proofs.Tests.{by-test, by_equal}
use Rattle.block.specs.Reading.{read_refusal}
use Rattle.block.proofs.RoundTrip.{accepted, power-up-accepted}
use Rattle.lines.specs.Lines.{each}
use Rattle.lines.proofs.Laws.{each-even, each_same, each_none}
use Rattle.salvage.specs.Salvage.{whole_in, tail_in, block_at, is_good, last_good, stand_in, written_for, line_for, tail_line}
use Rattle.salvage.specs.Salvage.{count_of, counts_line, second_of, report_of}
use Rattle.salvage.proofs.Turns.{block-before, block_last, Taken}
use Rattle.salvage.proofs.Telling.{count-not}

-- What is written is good --------------------------------------------------------------------------------------------------------

last-good : (file : List ℕ) (k : ℕ) → read_refusal (stand_in file (last_good file k)) ≡ 0
unfolding last_good stand_in
last-good file zero = power-up-accepted
last-good file (suc k) =
    by-test (λ (n : ℕ). read_refusal (stand_in file n) ≡ 0) (is_good file k) (λ t. eqb-true _ _ t) (λ _. last-good file k)

pub written-good : (file : List ℕ) (k : ℕ) → read_refusal (written_for file k) ≡ 0
unfolding written_for
written-good file k =
    by-test (λ (b : List ℕ). read_refusal b ≡ 0) (is_good file k) (λ t. eqb-true _ _ t) (λ _. last-good file k)

-- so is what stands in after each block
pub taken-good : {n : ℕ} {sources last : List ℕ} {source : ℕ} → Taken n sources last source → read_refusal last ≡ 0
taken-good {n} t = rw (t.stands, t.from) (last-good t.file n)

written-length : (file : List ℕ) (k : ℕ) → length (written_for file k) ≡ 512
written-length file k = (accepted (written_for file k) (written-good file k)).long

-- A row of blocks is read back ---------------------------------------------------------------------------------------------------

module _ (f : ℕ → List ℕ) (h : (k : ℕ) → length (f k) ≡ 512) where
  row-length : (n : ℕ) → length (each f n) ≡ n * 512
  row-length n = each-even f 512 n h

  row_at : (n k : ℕ) → k < n → block_at (each f n) k ≡ f k
  unfolding each
  row_at zero k l = absurd (omega arith)
  row_at (suc n) k l =
      by_equal k n (λ e. rw e (block_last (each f n) (f n) n (row-length n) (h n)))
      (λ e. let m : k < n = omega (arith, e) in block-before (each f n) (f n) n (row-length n) k m ∙ row_at n k m)

-- The second file ----------------------------------------------------------------------------------------------------------------

-- it is whole: as many blocks as the first has, and no tail
pub second-length : (file : List ℕ) → length (second_of file) ≡ whole_in (length file) * 512
unfolding second_of
second-length file = row-length (written_for file) (written-length file) (whole_in (length file))

-- block k of it is what is written for block k
pub second_at : (file : List ℕ) (k : ℕ) → k < whole_in (length file) → block_at (second_of file) k ≡ written_for file k
unfolding second_of
second_at file k h = row_at (written_for file) (written-length file) (whole_in (length file)) k h

-- and every one is good
pub all-good : (file : List ℕ) (k : ℕ) → k < whole_in (length file) → is_good (second_of file) k ≡ true
all-good file k h = eq-eqb _ _ (ap read_refusal (second_at file k h) ∙ written-good file k)

-- Salvaged again -----------------------------------------------------------------------------------------------------------------

count-all : (p : ℕ → Bool) (n : ℕ) → ((k : ℕ) → k < n → p k ≡ true) → count_of p n ≡ n
unfolding count_of
count-all p zero h = refl
count-all p (suc n) h = rw (count-all p n (λ k l. h k (omega arith)), h n (omega arith)) (omega arith)

module _ (file : List ℕ) where
  whole_again : whole_in (length (second_of file)) ≡ whole_in (length file)
  whole_again = omega (arith, second-length file)

  -- the second file is its own second file
  pub second-again : second_of (second_of file) ≡ second_of file
  unfolding second_of written_for
  second-again =
      rw whole_again (each_same (written_for (second_of file)) (written_for file) (whole_in (length file))
      (λ k h. rw (all-good file k h) (second_at file k h)))

  -- and all that is printed of it is `kept K changed 0`
  pub report-again : report_of (second_of file) ≡ counts_line (whole_in (length file)) 0
  unfolding report_of line_for tail_line
  report-again =
      let n = whole_in (length file) in
      let none : tail_in (length (second_of file)) ≡ 0 = omega (arith, second-length file) in
      let all = count-all (is_good (second_of file)) n (all-good file) in
      let lost : count_of (λ k. not (is_good (second_of file) k)) n ≡ 0 = omega (arith, count-not (is_good (second_of file)) n) in
      let lines = each_none (line_for (second_of file)) n (λ k h. rw (all-good file k h)) in
      rw (whole_again, none, all, lost, lines)
