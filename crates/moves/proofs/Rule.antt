-- Document 01's rule (Planner's steps) holds of the fewest move bytes; and what they are from a place to itself and to the next.
use mathlib.Core.Path.{◌≡◌, refl, sym, ap, ◌∙◌}
use mathlib.Core.Logic.{◌≢◌, ⊎_elim}
use mathlib.Core.Bool.{true, and-false}
use Prim.Native.Nat.{ℕ, zero, suc, ◌+◌, ◌≤◌, ◌<◌}
use native.Mathlib.Omega.{arith}
use lib.Dec.{eqb, ltb}
use lib.ListN.{length}
use borrow.Author.Tests.{lt-ltb, le-ltb, ltb-true, ltb-false, eqb-true, eqb-false}
use Rattle.laws.proofs.Tests.{by_cases, by-test}
use Rattle.moves.specs.Moves.{any, places, moves, move, dist, fewest_of, least_up_to, least, Ruled, Fewest}
use Rattle.moves.specs.Ways.{first_byte, path}
use Rattle.moves.proofs.Moving.{dist-step, dist-most, dist-self, dist-zero, dist-along, first-byte, each-move}
use Rattle.moves.proofs.Moving.{move-below, length-path}

pub fewest-is : (a b : ℕ) → a < 40 → b < 40 → fewest_of a b ≡ dist a b
unfolding fewest_of
fewest-is a b ha hb = rw (lt-ltb a 40 ha, lt-ltb b 40 hb)

-- from a place to itself, to the next one, and where one of the two is no place
pub fewest-self : (a b : ℕ) → a ≡ b → fewest_of a b ≡ 0
unfolding fewest_of
fewest-self a b e = rw (e, dist-self b) (by-test (λ (n : ℕ). n ≡ 0) (places b b) (λ _. refl) (λ _. refl))

pub fewest-next : (a b : ℕ) → b < 40 → b ≡ a + 1 → fewest_of a b ≡ 1
fewest-next a b hb e =
    let far : dist a b ≢ 0 = λ z. omega (arith, dist-zero a b z) in
    omega (arith, fewest-is a b (omega arith) hb, dist-along a b (omega arith) hb, far)

pub fewest-none-from : (a b : ℕ) → 40 ≤ a → fewest_of a b ≡ 0
unfolding fewest_of
fewest-none-from a b h = rw (le-ltb a 40 h)

pub fewest-none-to : (a b : ℕ) → 40 ≤ b → fewest_of a b ≡ 0
unfolding fewest_of
fewest-none-to a b h = rw (le-ltb b 40 h, and-false (ltb a 40))

-- more than 0 is between two places alone
pub fewest-places : (a b : ℕ) → fewest_of a b ≢ 0 → (a < 40) × (b < 40)
fewest-places a b z =
    by_cases (ltb a 40)
    (λ e. by_cases (ltb b 40) (λ h. (ltb-true a 40 e, ltb-true b 40 h)) (λ h. absurd (z (fewest-none-to a b (ltb-false b 40 h)))))
    (λ e. absurd (z (fewest-none-from a b (ltb-false a 40 e))))

-- the least of all is at most each
least_at : (f : ℕ → ℕ) (n p : ℕ) → p ≤ n → least_up_to f n ≤ f p
unfolding least_up_to
least_at f zero p h = let e : p ≡ 0 = omega arith in rw e (omega arith)
least_at f (suc n) p h =
    by_cases (eqb p (suc n)) (λ e. rw (eqb-true p (suc n) e) (omega arith))
    (λ e. omega (arith, least_at f n p (omega (arith, eqb-false p (suc n) e))))

-- and at least what is at most each
least-over : (f : ℕ → ℕ) (k n : ℕ) → ((p : ℕ) → k ≤ f p) → k ≤ least_up_to f n
unfolding least_up_to
least-over f k zero h = h 0
least-over f k (suc n) h = omega (arith, h (suc n), least-over f k n h)

module _ (a b : ℕ) (ha : a < 40) (hb : b < 40) where
  step : (m : ℕ) → any (eqb m) moves ≡ true → fewest_of a b ≤ 1 + fewest_of (move m a) b
  step m i = omega (arith, dist-step m a b i, fewest-is a b ha hb, fewest-is (move m a) b (move-below m a ha) hb)

  jump-most : fewest_of a b ≤ least_up_to (λ p. 3 + fewest_of p b) 0x27
  jump-most = least-over (λ p. 3 + fewest_of p b) (fewest_of a b) 0x27 (λ p. omega (arith, fewest-is a b ha hb, dist-most a b))

  at_most : fewest_of a b ≤ least fewest_of a b
  unfolding least move
  at_most = omega (arith, step 0x08 refl, step 0x09 refl, step 0x0a refl, step 0x0c refl, step 0x0d refl, jump-most)

  least-move : (m : ℕ) → any (eqb m) moves ≡ true → least fewest_of a b ≤ 1 + fewest_of (move m a) b
  unfolding least move
  least-move =
      each-move (λ m. least fewest_of a b ≤ 1 + fewest_of (move m a) b)
      (omega arith) (omega arith) (omega arith) (omega arith) (omega arith)

  least-jump : least fewest_of a b ≤ 3
  unfolding least
  least-jump = omega (arith, least_at (λ p. 3 + fewest_of p b) 0x27 b (omega arith), fewest-is b b hb hb, dist-self b)

  otherwise : (n : ℕ) → dist a b ≡ n → a ≢ b → fewest_of a b ≡ least fewest_of a b
  otherwise zero e h = absurd (h (dist-zero a b e))
  otherwise (suc n) e h =
      ⊎_elim
      (λ r. let m = first_byte n a b in
      omega (arith, at_most, least-move m r.1, fewest-is (move m a) b (move-below m a ha) hb, r.2, fewest-is a b ha hb))
      (λ r. omega (arith, at_most, least-jump, fewest-is a b ha hb, r.1))
      (first-byte n a b e)

  pub ruled : Ruled fewest_of a b
  ruled =
      record {
        itself = λ e. fewest-is a b ha hb ∙ ap (dist a) (sym e) ∙ dist-self a;
        alone = λ e. dist-zero a b (sym (fewest-is a b ha hb) ∙ e);
        otherwise = otherwise (dist a b) refl;
        most = omega (arith, fewest-is a b ha hb, dist-most a b);
      }

pub fewest : (a b r : ℕ) → r ≡ fewest_of a b → Fewest a b r
fewest a b r e = record { answer = e; rule = ruled a b }

-- two answers that the contract of `number` allows are the same
pub one_number : (a b r s : ℕ) → Fewest a b r → Fewest a b s → r ≡ s
one_number a b r s f g = f.answer ∙ sym g.answer

-- between two places the answer is the length of the way
pub fewest-length : (a b r : ℕ) → Fewest a b r → a < 40 → b < 40 → r ≡ length (path a b)
fewest-length a b r f ha hb = f.answer ∙ fewest-is a b ha hb ∙ sym (length-path a b)
