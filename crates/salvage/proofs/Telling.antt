-- What is printed: by the sources of the blocks, and so of the file; and how long it may be.
use Prim.Native.Nat.{ℕ, zero, suc, ◌+◌, ◌-◌, ◌≤◌, ◌<◌}
use mathlib.Core.Path.{◌≡◌, refl, sym, ◌∙◌}
use mathlib.Core.Bool.{Bool, true, false, cond, not}
use mathlib.Core.List.{List, [], ◌++◌}
use native.Mathlib.Omega.{arith}
use native.Mathlib.Numerals.{add-one}
use lib.Dec.{eqb, ltb}
use lib.ListN.{length, get_or, replicate, length-append, length-replicate}
use borrow.Author.Tests.{ltb-false, eq-eqb, ne_eqb}
use Rattle.laws.proofs.Tests.{by_cases, by-test, passed}
use Rattle.laws.specs.Flags.{flag}
use Rattle.laws.proofs.Flags.{flag-most}
use Rattle.lines.specs.Lines.{Added, text, numbered, new_line, refused_line}
use Rattle.lines.proofs.Laws.{whole-added, each_below, each_same, decimal-below, refused-length}
use Rattle.salvage.specs.Salvage.{whole_in, tail_in, is_good, last_good, change_line, line_for, tail_line, count_of, counts_line}
use Rattle.salvage.specs.Salvage.{report_of, salvage_refusal, salvage_of}
use Rattle.salvage.specs.Steps.{SourcesOf, Sourced, own_source, line_by, report_by, Reports}
use Rattle.salvage.proofs.Turns.{last-most, last-before}

-- Lines --------------------------------------------------------------------------------------------------------------------------

pub line-own : (k source : ℕ) → source ≡ k + 1 → line_by k source ≡ []
unfolding line_by
line-own k source e = rw (eq-eqb _ _ e)

pub line-power-up : (k source : ℕ) → (source ≡ k + 1 → ⊥) → source ≡ 0
    → line_by k source ≡ numbered (text "block ") k ++ text " power-up\n"
unfolding line_by change_line
line-power-up k source h e = rw (ne_eqb _ _ h, e)

pub line-repeated : (k source : ℕ) → (source ≡ k + 1 → ⊥) → (source ≡ 0 → ⊥)
    → line_by k source ≡ numbered (text "block ") k ++ (numbered (text " repeated ") (source - 1) ++ new_line)
unfolding line_by change_line
line-repeated k zero h g = absurd (g refl)
line-repeated k (suc n) h g = let e : suc n - 1 ≡ n = omega arith in rw (ne_eqb _ _ h, e)

pub tail-line : (n : ℕ) → (n ≡ 0 → ⊥) → tail_line n ≡ numbered (text "tail ") n ++ text " dropped\n"
unfolding tail_line
tail-line zero h = absurd (h refl)
tail-line (suc n) h = refl

-- Counts -------------------------------------------------------------------------------------------------------------------------

pub count_most : (p : ℕ → Bool) (n : ℕ) → count_of p n ≤ n
unfolding count_of
count_most p zero = omega arith
count_most p (suc n) = omega (arith, count_most p n, flag-most (p n))

pub count_next : (p : ℕ → Bool) (n a b : ℕ) → a ≡ count_of p n → b ≡ flag (p n) → a + b ≡ count_of p (n + 1)
unfolding count_of
count_next p n a b e f = rw (e, f, add-one n)

-- those that fail are the others
pub count-not : (p : ℕ → Bool) (n : ℕ) → count_of (λ k. not (p k)) n ≡ n - count_of p n
unfolding count_of
count-not p zero = refl
count-not p (suc n) =
    let m = count_most p n in
    let e = count-not p n in
    by_cases (p n) (λ t. rw t (omega arith)) (λ t. rw t (omega arith))

count_same : (p q : ℕ → Bool) (n : ℕ) → ((k : ℕ) → k < n → p k ≡ q k) → count_of p n ≡ count_of q n
unfolding count_of
count_same p q zero h = refl
count_same p q (suc n) h = rw (count_same p q n (λ k e. h k (omega arith)), h n (omega arith))

-- Of a file ----------------------------------------------------------------------------------------------------------------------

-- a block is its own source where it is good
own-good : (file : List ℕ) (k : ℕ) → eqb (last_good file (suc k)) (k + 1) ≡ is_good file k
unfolding last_good
own-good file k =
    by_cases (is_good file k) (λ t. rw t (eq-eqb _ _ (sym (add-one k))))
    (λ t. rw t (ne_eqb (last_good file k) (k + 1) (λ e. omega (arith, last-most file k))))

line_of : (file : List ℕ) (k : ℕ) → line_by k (last_good file (suc k)) ≡ line_for file k
unfolding line_by line_for last_good
line_of file k = rw (own-good file k) (go (is_good file k))
  where
    go : (t : Bool) → cond t [] (change_line k (cond t (suc k) (last_good file k))) ≡ cond t [] (change_line k (last_good file k))
    go true = refl
    go false = refl

-- what is printed by the sources of a file is what is to be printed of it
pub report-of : (file sources : List ℕ) (size : ℕ) → length file ≡ size → SourcesOf file (whole_in size) sources
    → report_by sources (whole_in size) (tail_in size) ≡ report_of file
unfolding report_by report_of
report-of file sources size l s =
    let n = whole_in size in
    let own = count_same (own_source sources) (is_good file) n (λ k h. rw (s k h) (own-good file k)) in
    let others = count-not (is_good file) n in
    let rows = each_same (λ k. line_by k (get_or sources k 0)) (line_for file) n (λ k h. rw (s k h) (line_of file k)) in
    rw (l, own, others, rows)

-- How long it is -----------------------------------------------------------------------------------------------------------------

line-length : (k source : ℕ) → k < 10000 → source ≤ 10000 → length (line_by k source) ≤ 25
unfolding line_by change_line
line-length k source h g =
    by-test (λ (x : List ℕ). length x ≤ 25) (eqb source (k + 1)) (λ _. omega arith) (λ _. go source g)
  where
    go : (source : ℕ) → source ≤ 10000 → length (change_line k source) ≤ 25
    go zero g = simp length-append (omega (arith, decimal-below 3 k h))
    go (suc n) g = simp length-append (omega (arith, decimal-below 3 k h, decimal-below 3 n (omega arith)))

tail-length : (n : ℕ) → n < 512 → length (tail_line n) ≤ 17
unfolding tail_line
tail-length zero h = omega arith
tail-length (suc n) h = simp length-append (omega (arith, decimal-below 2 (suc n) (omega arith)))

counts-length : (a b : ℕ) → a ≤ 10000 → b ≤ 10000 → length (counts_line a b) ≤ 25
unfolding counts_line
counts-length a b h g = simp length-append (omega (arith, decimal-below 4 a (omega arith), decimal-below 4 b (omega arith)))

report-length : (sources : List ℕ) (n tail : ℕ) → n ≤ 10000 → tail < 512 → ((k : ℕ) → k < n → get_or sources k 0 ≤ 10000)
    → length (report_by sources n tail) ≤ 262144
unfolding report_by
report-length sources n tail h g b =
    let own = count_of (own_source sources) n in
    let most = count_most (own_source sources) n in
    let rows = each_below (λ k. line_by k (get_or sources k 0)) 25 n
    (λ k l. line-length k (get_or sources k 0) (omega arith) (b k l)) in
    let last = counts-length own (n - own) (omega arith) (omega arith) in
    simp length-append (omega (arith, rows, tail-length tail g, last))

-- Accepted or refused ------------------------------------------------------------------------------------------------------------

-- a file that is not refused has few blocks
pub few : (size : ℕ) → salvage_refusal size ≡ 0 → whole_in size ≤ 10000
unfolding salvage_refusal
few size e = ltb-false 10000 (whole_in size) (passed (ltb 10000 (whole_in size)) 3 0 e).0

-- the second file could not be made, and nothing is printed
pub reports-nothing : (size : ℕ) (out : List ℕ) → salvage_refusal size ≡ 0 → Reports size 0 out
reports-nothing size out z = record { within = omega arith; refused = λ h. absurd (h z); told = λ h. absurd (h refl) }

module _ {before after : List ℕ} {m : ℕ} (size : ℕ) (l : length before ≡ 262144) where
  pub reports-refused : (n : ℕ) → n ≡ salvage_refusal size → (n ≡ 0 → ⊥) → Added before 0 (refused_line n) after m
      → Reports size m after
  unfolding salvage_of
  reports-refused n e h a =
      let w = whole-added a (omega (arith, refused-length n)) in
      let long = length-replicate {A = ℕ} size 0 in
      record {
        within = w.1;
        refused = λ _. w.0 ∙ rw e;
        told = λ _. record { file = replicate size 0; long = long; all = w.0 ∙ rw (long, ← e, ne_eqb n 0 h) };
      }

  -- the file is that of the blocks that were read, and a tail of as many bytes as were not
  pub reports-accepted : (sources : List ℕ) → salvage_refusal size ≡ 0 → Sourced (whole_in size) sources
      → Added before 0 (report_by sources (whole_in size) (tail_in size)) after m → Reports size m after
  unfolding salvage_of
  reports-accepted sources z r a =
      let n = whole_in size in
      let tail : List ℕ = replicate (tail_in size) 0 in
      let file = r.file ++ tail in
      let long : length file ≡ size =
      omega (arith, length-append r.file tail, length-replicate {A = ℕ} (tail_in size) 0, r.long) in
      let before = last-before r.file tail n r.long in
      let s : SourcesOf file n sources = λ k h. r.each k h ∙ sym (before (suc k) (omega arith)) in
      let low : (k : ℕ) → k < n → get_or sources k 0 ≤ 10000 =
      λ k h. omega (arith, r.each k h, last-most r.file (suc k), few size z) in
      let w = whole-added a (omega (arith, report-length sources n (tail_in size) (few size z) (omega arith) low)) in
      record {
        within = w.1;
        refused = λ h. absurd (h z);
        told = λ _. record { file = file; long = long; all = w.0 ∙ rw (long, z) (report-of file sources size long s) };
      }
