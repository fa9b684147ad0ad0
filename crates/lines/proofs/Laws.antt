-- Text that is added piece by piece.
use Prim.Native.Nat.{ℕ, zero, suc, ◌+◌, ◌-◌, ◌*◌, ◌/◌, ◌%◌, ◌^◌, ◌≤◌, ◌<◌, min}
use mathlib.Core.Path.{◌≡◌, refl, sym, ap, ◌∙◌}
use mathlib.Core.Bool.{Bool, true, false, cond}
use mathlib.Core.List.{List, [], ◌∷◌, ◌++◌, append_assoc, append-nil}
use native.Mathlib.Omega.{arith}
use native.Mathlib.Numerals.{add-one}
use native.Mathlib.Nat.{add-zero, min-zero, le_trans, mod-eq_of_lt, mod-lt}
use native.Mathlib.Nat.{div-lt_iff_lt-mul, le-div_iff_mul-le, pow-suc, pow-le-pow_right}
use lib.Dec.{eqb, ltb, leb, lit<}
use lib.ListN.{length, take, drop, length-append, length-take, length-drop, drop_of_length-le, take-append-drop}
use lib.Seq.{take_at, take_all, take-append-add, drop-append-add, length-take-le}
use borrow.Author.Tests.{ne_eqb, lt-ltb, le-ltb, leb-true, leb-false}
use Rattle.laws.proofs.Tests.{by_cases, by-test}
use Rattle.row.specs.Row.{laid}
use Rattle.row.proofs.Laws.{laid_none, laid-empty, laid_both}
use Rattle.io.specs.Digits.{last_digits, IsDigitCount}
use Rattle.interpreter.specs.Run.{Ran}
use Rattle.lines.specs.declared.Text.{Text}
use Rattle.lines.specs.Lines.{Added, Adds, each, digit, decimal_in, decimal_of, tally_line, refused_line, end_start, end_of}
use Rattle.lines.specs.Lines.{print_of}
use Rattle.lines.specs.Lines.{code_text, hex_line, cell_lines}

-- x laid from k on
abbrev put : ℕ → List ℕ → List ℕ → List ℕ
put k x a = take k a ++ laid x (drop k a)

both-text : (a x y : List ℕ) (k : ℕ) → put (k + min (length x) (length a - k)) y (put k x a) ≡ put k (x ++ y) a
both-text a x y k =
    by_cases (leb k (length a))
    (λ e. let p = take k a in
    let s = drop k a in
    let n = min (length x) (length a - k) in
    let f : n ≡ min (length x) (length s) = ap (min (length x)) (sym (length-drop k a)) in
    let l : length p ≡ k = length-take-le k a (leb-true k (length a) e) in
    let g : take (k + n) (p ++ laid x s) ≡ p ++ take n (laid x s) = rw l at (take-append-add p (laid x s) n) in
    let h : drop (k + n) (p ++ laid x s) ≡ drop n (laid x s) = rw l at (drop-append-add p (laid x s) n) in
    rw (g, h, append_assoc p (take n (laid x s)) (laid y (drop n (laid x s))), f)
    (ap (λ (l : List ℕ). p ++ l) (laid_both x y s)))
    (λ e. let h : length a < k = leb-false k (length a) e in
    let z : length a - k ≡ 0 = omega arith in
    let d : drop k a ≡ [] = drop_of_length-le a {i = k} (omega arith) in
    let t : take k a ≡ a = take_all k a (omega arith) in
    rw (z, d, t, min-zero (length x), add-zero k, laid_none x, append-nil a, d, t, laid_none (x ++ y), laid_none y))

length-put : (k : ℕ) (x a : List ℕ) → length (put k x a) ≡ length a
unfolding laid
length-put k x a =
    simp (length-append, length-take, length-drop) (omega arith)

pub same-added : {a b : List ℕ} {k r : ℕ} {x : List ℕ} → Added a k x b r → length b ≡ length a
same-added {a} {b} {k} {r} {x} p = ap length p.buffer ∙ length-put k x a

-- any two answers that a contract allows are equal
pub one-added : {a b d : List ℕ} {k m r : ℕ} {x : List ℕ} → Added a k x b m → Added a k x d r → (b ≡ d) × (m ≡ r)
one-added p q = (p.buffer ∙ sym q.buffer, p.next ∙ sym q.next)

-- two texts, one after the other
pub both-added : {a b d : List ℕ} {k m r : ℕ} {x y : List ℕ} → Added a k x b m → Added b m y d r → Added a k (x ++ y) d r
both-added {a} {b} {d} {k} {m} {r} {x} {y} p q =
    let l : length b ≡ length a = same-added p in
    record {
      next = omega (arith, q.next, p.next, l, length-append x y);
      buffer = q.buffer ∙ (rw (p.next, p.buffer) (both-text a x y k));
    }

-- no text
pub none-added : (a : List ℕ) (k : ℕ) → Added a k [] a k
none-added a k = record { next = omega arith; buffer = rw (laid-empty (drop k a)) (sym (take-append-drop k a)) }

-- one more of a row of texts
pub each-added : {a b d : List ℕ} {k m r : ℕ} (f : ℕ → List ℕ) (n : ℕ) → Added a k (each f n) b m → Added b m (f n) d r
    → Added a k (each f (n + 1)) d r
unfolding each
each-added f n p q = rw (add-one n) (both-added p q)

-- the same of a text
pub both-adds : {a b d : Text} {x y : List ℕ} → Adds a x b → Adds b y d → Adds a (x ++ y) d
both-adds p q = record { same = q.same ∙ p.same; added = both-added p.added q.added }

pub none-adds : (a : Text) → Adds a [] a
none-adds a = record { same = refl; added = none-added a.out.now a.size }

pub each-adds : {a b d : Text} (f : ℕ → List ℕ) (n : ℕ) → Adds a (each f n) b → Adds b (f n) d → Adds a (each f (n + 1)) d
each-adds f n p q = record { same = q.same ∙ p.same; added = each-added f n p.added q.added }

-- a text within its buffer stays within it
pub adds-within : {a b : Text} {x : List ℕ} → Adds a x b → a.size ≤ length a.out.now → b.size ≤ length b.out.now
adds-within p h = omega (arith, p.added.next, same-added p.added, h)

pub each_below : (f : ℕ → List ℕ) (m n : ℕ) → ((i : ℕ) → i < n → length (f i) ≤ m) → length (each f n) ≤ n * m
unfolding each
each_below f m zero h = omega arith
each_below f m (suc n) h =
    let l : length (each f n) ≤ n * m = each_below f m n (λ i e. h i (omega arith)) in
    omega (arith, length-append (each f n) (f n), h n (omega arith))

pub each-length : (f : ℕ → List ℕ) (m n : ℕ) → ((i : ℕ) → length (f i) ≤ m) → length (each f n) ≤ n * m
each-length f m n h = each_below f m n (λ i _. h i)

-- a row of texts that are all as long
pub each-even : (f : ℕ → List ℕ) (m n : ℕ) → ((i : ℕ) → length (f i) ≡ m) → length (each f n) ≡ n * m
unfolding each
each-even f m zero h = omega arith
each-even f m (suc n) h = omega (arith, length-append (each f n) (f n), each-even f m n h, h n)

-- rows of the same texts, and of none
pub each_same : (f g : ℕ → List ℕ) (n : ℕ) → ((i : ℕ) → i < n → f i ≡ g i) → each f n ≡ each g n
unfolding each
each_same f g zero h = refl
each_same f g (suc n) h = rw (each_same f g n (λ i e. h i (omega arith)), h n (omega arith))

pub each_none : (f : ℕ → List ℕ) (n : ℕ) → ((i : ℕ) → i < n → f i ≡ []) → each f n ≡ []
unfolding each
each_none f zero h = refl
each_none f (suc n) h = rw (each_none f n (λ i e. h i (omega arith)), h n (omega arith))

-- a text with room for all of it
pub whole-added : {a b : List ℕ} {x : List ℕ} {r : ℕ} → Added a 0 x b r → length x ≤ length a → (take r b ≡ x) × (r ≤ length b)
unfolding laid
whole-added {a} {b} {x} {r} p h =
    let e : r ≡ length x = omega (arith, p.next) in
    let l : length b ≡ length a = same-added p in
    (rw (p.buffer, take_all (length a) x h) (take_at x (drop (length x) a) r (sym e)), omega arith)

-- what is printed of a run, with room for all of it
pub printed : {a b d : List ℕ} {body : List ℕ} {k n : ℕ} (r : Ran) → Added a 0 body b k → Added b (end_start r k) (end_of r) d n
    → length (print_of body r) ≤ length a → (take n d ≡ print_of body r) × (n ≤ length d)
unfolding end_start end_of print_of
printed {a} {b} {d} {body} {k} {n} r p q h = go (eqb r.refusal 0) q h
  where
    go : (t : Bool) → Added b (cond t k 0) (cond t (tally_line r.tally) (refused_line r.refusal)) d n
        → length (cond t (body ++ tally_line r.tally) (refused_line r.refusal)) ≤ length a
        → (take n d ≡ cond t (body ++ tally_line r.tally) (refused_line r.refusal)) × (n ≤ length d)
    go true q h = whole-added (both-added p q) h
    go false q h = whole-added q (omega (arith, same-added p))

-- Decimals ---------------------------------------------------------------------------------------------------------------

ten-below : (r : ℕ) → 10 ≤ 10 ^ suc r
ten-below r = pow-le-pow_right {n = 10} (lit< tt) {i = 1} {j = suc r} (omega arith)

tenth : (r n : ℕ) → 10 ^ suc r ≤ n → 10 ^ (suc r - 1) ≤ n / 10
tenth r n h =
    let e : suc r - 1 ≡ r = omega arith in
    rw e ((le-div_iff_mul-le (lit< tt)).1 (rw (pow-suc 10 r) at h))

-- a number in the fewest digits
digits_decimal : (f r n : ℕ) → IsDigitCount 10 1 n r → r ≤ f → last_digits 10 r n ≡ decimal_in f n
unfolding decimal_in
digits_decimal f zero n h l = let z : ⊥ = omega arith in absurd z
digits_decimal zero (suc r) n h l = let z : ⊥ = omega arith in absurd z
digits_decimal (suc f) (suc zero) n h l =
    let m : n < 10 = h.1 in
    rw (mod-eq_of_lt m, lt-ltb n 10 m)
digits_decimal (suc f) (suc (suc r)) n h l =
    let e : suc (suc r) - 1 ≡ suc r = omega arith in
    let big : 10 ^ suc r ≤ n = rw e at (h.2 (omega arith)) in
    let ten : 10 ≤ n = le_trans (ten-below r) big in
    let low : n % 10 < 10 = mod-lt n (lit< tt) in
    let fewer : IsDigitCount 10 1 (n / 10) (suc r) =
    (omega arith, (div-lt_iff_lt-mul (lit< tt)).1 (rw (pow-suc 10 (suc r)) at h.1), λ _. tenth r n big) in
    let first = digits_decimal f (suc r) (n / 10) fewer (omega arith) in
    rw (le-ltb n 10 ten, lt-ltb (n % 10) 10 low) (ap (λ (x : List ℕ). x ++ digit (n % 10) ∷ []) first)

-- a number of 64 bits has at most 20 digits
fewest-20 : (n r : ℕ) → IsDigitCount 10 1 n r → n < 2 ^ 64 → r ≤ 20
fewest-20 n r f h =
    by_cases (leb r 20) (λ e. leb-true r 20 e)
    (λ e. let l : 20 < r = leb-false r 20 e in
    let p : 10 ^ 20 ≤ 10 ^ (r - 1) = pow-le-pow_right {n = 10} (lit< tt) {i = 20} {j = r - 1} (omega arith) in
    let q : 10 ^ (r - 1) ≤ n = f.2 (omega arith) in
    omega arith)

pub decimal-is : (d : List ℕ) (n r : ℕ) → IsDigitCount 10 1 n r → n < 2 ^ 64 → take r d ≡ last_digits 10 r n
    → take r d ≡ decimal_of n
unfolding decimal_of
decimal-is d n r f h e = e ∙ digits_decimal 20 r n f (fewest-20 n r f h)

decimal-in-length : (f n : ℕ) → length (decimal_in f n) ≤ f
unfolding decimal_in
decimal-in-length zero n = omega arith
decimal-in-length (suc f) n =
    by-test (λ (x : List ℕ). length x ≤ suc f) (ltb n 10) (λ _. omega arith)
    (λ _. omega (arith, decimal-in-length f (n / 10), length-append (decimal_in f (n / 10)) (digit (n % 10) ∷ [])))

pub decimal-length : (n : ℕ) → length (decimal_of n) ≤ 20
unfolding decimal_of
decimal-length n = decimal-in-length 20 n

-- and no more digits than a power of ten above it has zeros
decimal-in-below : (f d n : ℕ) → n < 10 ^ suc d → length (decimal_in f n) ≤ suc d
unfolding decimal_in
decimal-in-below zero d n h = omega arith
decimal-in-below (suc f) zero n h = rw (lt-ltb n 10 h) (omega arith)
decimal-in-below (suc f) (suc d) n h =
    let fewer = decimal-in-below f d (n / 10) ((div-lt_iff_lt-mul (lit< tt)).1 (rw (pow-suc 10 (suc d)) at h)) in
    by-test (λ (x : List ℕ). length x ≤ suc (suc d)) (ltb n 10) (λ _. omega arith)
    (λ _. omega (arith, fewer, length-append (decimal_in f (n / 10)) (digit (n % 10) ∷ [])))

pub decimal-below : (d n : ℕ) → n < 10 ^ suc d → length (decimal_of n) ≤ suc d
unfolding decimal_of
decimal-below d n h = decimal-in-below 20 d n h

-- three bytes for each code
pub hex-length : (codes : List ℕ) → length (hex_line codes) ≤ length codes * 3
unfolding hex_line code_text
hex-length codes = each-length (code_text codes) 3 (length codes) (λ i. omega arith)

pub cells-length : (codes : List ℕ) → length codes ≡ 40 → length (cell_lines codes) ≤ 120
unfolding cell_lines
cells-length codes h =
    let top = hex-length (take 20 codes) in
    let bottom = hex-length (drop 20 codes) in
    simp length-append (omega (arith, top, bottom, length-take 20 codes, length-drop 20 codes))

pub refused-length : (n : ℕ) → length (refused_line n) ≤ 29
unfolding refused_line
refused-length n = simp length-append (omega (arith, decimal-length n))

-- what ends a print has at most 113 bytes
pub print-length : (body : List ℕ) (r : Ran) → length (print_of body r) ≤ length body + 113
unfolding print_of tally_line refused_line
print-length body r =
    by-test (λ (x : List ℕ). length x ≤ length body + 113) (eqb r.refusal 0)
    (λ _. let t = r.tally in
    let first = decimal-length t.bytes in
    let last = decimal-length t.worst in
    simp length-append (omega (arith, first, decimal-length t.busy, decimal-length t.flickerless, last)))
    (λ _. simp length-append (omega (arith, decimal-length r.refusal)))

-- a refusal alone, over whatever stands there
pub printed-alone : {a d : List ℕ} {n : ℕ} (body : List ℕ) (k : ℕ) (r : Ran) → (r.refusal ≡ 0 → ⊥)
    → Added a (end_start r k) (end_of r) d n → 29 ≤ length a → (take n d ≡ print_of body r) × (n ≤ length d)
unfolding end_start end_of print_of
printed-alone {a} {d} {n} body k r h q l =
    let t = ne_eqb _ _ h in
    rw t (whole-added (rw t at q) (le_trans (refused-length r.refusal) l))
