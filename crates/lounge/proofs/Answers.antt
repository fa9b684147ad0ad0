-- What each way through a run answers, and several runs in turn.
use Prim.Native.Nat.{ℕ, ◌/◌, ◌%◌, ◌≤◌, ◌<◌}
use mathlib.Core.Path.{◌≡◌, refl, sym, ap, ◌∙◌}
use mathlib.Core.List.{List, [], ◌∷◌, ◌++◌, flatten}
use mathlib.Core.Bool.{true, false, not, ◌&&◌}
use native.Mathlib.Omega.{arith}
use lib.Dec.{eqb, ltb}
use lib.ListN.{length, length-append}
use borrow.Author.Tests.{eq-eqb, ne_eqb, lt-ltb, le-ltb, eqb-false, ltb-false, not-false}
use Rattle.laws.proofs.Tests.{both, passed, number_by}
use Rattle.std.specs.Prelude.{Result}
use Rattle.refusals.specs.declared.Refusal.{Refusal}
use Rattle.refusals.proofs.Laws.{one-answer}
use Rattle.lounge.specs.declared.Lounge.{Lounge}
use Rattle.lounge.specs.declared.Seen as cell
use Rattle.lounge.specs.Shows.{Seen, seen}
use Rattle.lounge.specs.Condition.{well_formed}
use Rattle.lounge.specs.Pairs.{run_of}
use Rattle.lounge.specs.Run.{Ran, ran, kinds_formed, run_refusal, refused_of, accepted_of, run_answer, in_turn, RunPromise}
use Rattle.lounge.proofs.Turns.{kinds-append, run-append}
use Rattle.lounge.proofs.Kept.{Sized, Fit, fit, formed, run-kept}

module _ (c : Lounge) (bs : List ℕ) (r : Ran) where
  -- refused, by its number
  not-run : (n : ℕ) → run_refusal c bs ≡ n → (n ≡ 0 → ⊥) → r ≡ refused_of n c → RunPromise c bs r
  unfolding run_answer
  not-run n e h f =
      record { answer = f ∙ sym (rw (e, ne_eqb n 0 h)); kept = λ z. absurd (h (sym (ap (λ (r : Ran). r.refusal) f) ∙ z)) }

  pub odd : length bs % 2 ≡ 1 → r ≡ refused_of 1 c → RunPromise c bs r
  unfolding run_refusal
  odd h = not-run 1 (rw (eq-eqb (length bs % 2) 1 h)) (λ z. omega arith)

  module _ (even : length bs % 2 ≡ 1 → ⊥) where
    pub not-formed : (well_formed c && kinds_formed bs) ≡ false → r ≡ refused_of 3 c → RunPromise c bs r
    unfolding run_refusal
    not-formed e = not-run 3 (rw (ne_eqb (length bs % 2) 1 even, e)) (λ z. omega arith)

    module _ (w : well_formed c ≡ true) (k : kinds_formed bs ≡ true) where
      pub too_many : 32768 < length bs / 2 → r ≡ refused_of 4 c → RunPromise c bs r
      unfolding run_refusal
      too_many h =
          not-run 4 (rw (ne_eqb (length bs % 2) 1 even, w, k, lt-ltb 32768 (length bs / 2) h)) (λ z. omega arith)

      pub accepted : length bs / 2 ≤ 32768 → Sized c → r ≡ accepted_of c bs → RunPromise c bs r
      unfolding run_answer run_refusal
      accepted h s e =
          record {
            answer = e ∙ sym (rw (ne_eqb (length bs % 2) 1 even, w, k, le-ltb 32768 (length bs / 2) h));
            kept = λ z. ap (λ (r : Ran). well_formed r.condition) e ∙ formed (run_of c bs) (run-kept c bs (fit c s w));
          }

-- any two answers that the promise allows are equal
pub one-run : (c : Lounge) (bs : List ℕ) (r s : Ran) → RunPromise c bs r → RunPromise c bs s → r ≡ s
one-run c bs r s p q = p.answer ∙ sym q.answer

-- and so are any two answers of the code, of a run and of a view
pub one-ran : (c : Lounge) (bs : List ℕ) (r s : Result Lounge Refusal) → RunPromise c bs (ran c r) → RunPromise c bs (ran c s)
    → r ≡ s
one-ran c bs r s p q =
    one-answer (ran c) (λ a. a.refusal) (λ a. a.condition) (λ _. refl) (λ _. refl) (λ _. refl) r s
    (one-run c bs (ran c r) (ran c s) p q)

abbrev of-seen : Seen → cell.Seen
of-seen s = record { shows = s.shows; level = s.level; blinking = s.blinking; underlined = s.underlined }

pub one-seen : (r s : Result cell.Seen Refusal) → seen r ≡ seen s → r ≡ s
one-seen = one-answer seen (λ a. a.refusal) of-seen (λ _. refl) (λ _. refl) (λ _. refl)

-- One run or several, by whole pairs, end alike -----------------------------------------------------------------------------------

refusal-of : (c : Lounge) (bs : List ℕ) → (run_answer c bs).refusal ≡ run_refusal c bs
unfolding run_answer
refusal-of c bs = number_by (λ (r : Ran). r.refusal) (run_refusal c bs) refl refl

pub not-refused : (c : Lounge) (bs : List ℕ) → (run_answer c bs).refusal ≡ 0 → run_answer c bs ≡ accepted_of c bs
unfolding run_answer
not-refused c bs z = rw (eq-eqb (run_refusal c bs) 0 (sym (refusal-of c bs) ∙ z))

-- what an accepted run is: whole pairs, a well-formed condition, kinds of 0 and 1, no more than 32,768
pub record Accepted (c : Lounge) (bs : List ℕ) : Type 0 where
  pub even : length bs % 2 ≡ 0
  pub is-formed : well_formed c ≡ true
  pub kinds : kinds_formed bs ≡ true
  pub few : length bs / 2 ≤ 32768

pub accepts : (c : Lounge) (bs : List ℕ) → (run_answer c bs).refusal ≡ 0 → Accepted c bs
unfolding run_refusal
accepts c bs z =
    let p = passed (eqb (length bs % 2) 1) 0 _ (sym (refusal-of c bs) ∙ z) in
    let q = passed (not (well_formed c && kinds_formed bs)) 2 _ p.1 in
    let t = passed (ltb 32768 (length bs / 2)) 3 0 q.1 in
    let w = both (well_formed c) (kinds_formed bs) (not-false _ q.0) in
    record {
      even = omega (arith, eqb-false (length bs % 2) 1 p.0);
      is-formed = w.0;
      kinds = w.1;
      few = omega (arith, ltb-false 32768 (length bs / 2) t.0);
    }

pub accepted-by : (c : Lounge) (bs : List ℕ) → Accepted c bs → run_answer c bs ≡ accepted_of c bs
unfolding run_answer run_refusal
accepted-by c bs a =
    let even : length bs % 2 ≡ 1 → ⊥ = λ e. omega (arith, a.even) in
    rw (ne_eqb (length bs % 2) 1 even, a.is-formed, a.kinds, le-ltb 32768 (length bs / 2) a.few)

-- whole pairs in each piece
abbrev pub Whole : List (List ℕ) → Type 0
Whole [] = Unit {0}
Whole (bs ∷ pieces) = (length bs % 2 ≡ 0) × Whole pieces

-- the first piece of an accepted run, and those behind it
first_piece : (c : Lounge) (xs ys : List ℕ) → Fit c → length xs % 2 ≡ 0 → Accepted c (xs ++ ys)
    → Accepted c xs × Accepted (run_of c xs) ys
first_piece c xs ys g e a =
    let k = both (kinds_formed xs) (kinds_formed ys) (sym (kinds-append xs ys e) ∙ a.kinds) in
    let l = length-append xs ys in
    let n = a.few in (
      record { even = e; is-formed = a.is-formed; kinds = k.0; few = omega arith },
      record {
        even = omega (arith, a.even);
        is-formed = formed (run_of c xs) (run-kept c xs g);
        kinds = k.1;
        few = omega arith;
      },
    )

-- an accepted run, cut into pieces of whole pairs
turns : (c : Lounge) (pieces : List (List ℕ)) → Fit c → Whole pieces → Accepted c (flatten pieces)
    → in_turn c pieces ≡ accepted_of c (flatten pieces)
unfolding in_turn flatten run_of
turns c [] g w a = refl
turns c (bs ∷ pieces) g w a =
    let p = first_piece c bs (flatten pieces) g w.0 a in
    rw (accepted-by c bs p.0, run-append c bs (flatten pieces) w.0)
    (turns (run_of c bs) pieces (run-kept c bs g) w.1 p.1)

pub in_pieces : (c : Lounge) (pieces : List (List ℕ)) (r : Ran) → Sized c → Whole pieces → RunPromise c (flatten pieces) r
    → r.refusal ≡ 0 → in_turn c pieces ≡ r
in_pieces c pieces r s w p z =
    let y : (run_answer c (flatten pieces)).refusal ≡ 0 = ap (λ (k : Ran). k.refusal) (sym p.answer) ∙ z in
    let a = accepts c (flatten pieces) y in
    turns c pieces (fit c s a.is-formed) w a ∙ sym (p.answer ∙ not-refused c (flatten pieces) y)
