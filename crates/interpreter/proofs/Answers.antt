-- What each way through a run comes to.
use Prim.Native.Nat.{ℕ, ◌+◌, ◌*◌, ◌≤◌, ◌<◌}
use mathlib.Core.Path.{◌≡◌, refl, ap, sym, ◌∙◌}
use mathlib.Core.Bool.{Bool, true, false, cond, not, ◌&&◌, and-false}
use mathlib.Core.List.{List, [], ◌∷◌, ◌++◌, flatten}
use native.Mathlib.Omega.{arith}
use lib.Dec.{eqb, ltb, leb}
use lib.ListN.{length, get_or, length-append}
use native.Mathlib.Nat.{add_assoc, add-zero}
use borrow.Author.Tests.{eq-eqb, ne_eqb, leb-true, eqb-true, eqb-false, not-false}
use Rattle.laws.proofs.Tests.{both, by-test, passed, number_by}
use Rattle.std.specs.Prelude.{Result}
use Rattle.refusals.specs.declared.Refusal.{Refusal}
use Rattle.refusals.specs.Refusals.{refusal_in}
use Rattle.refusals.proofs.Laws.{one-answer}
use Rattle.condition.specs.declared.Condition.{Condition}
use Rattle.condition.specs.Condition.{well_formed}
use Rattle.condition.specs.Bytes.{run_of}
use Rattle.condition.specs.Busy.{total_of, quick_figure, worst_figure, while_on, busy_of, flickerless_of, worst_of}
use Rattle.condition.proofs.Good.{Sized, Indexed, run-sized}
use Rattle.condition.proofs.Aside.{run-indexed}
use Rattle.condition.proofs.Kept.{run-kept}
use Rattle.condition.proofs.Pieces.{run-append, total-append, worst-law}
use Rattle.interpreter.specs.declared.Tally.{Tally}
use Rattle.interpreter.specs.declared.Ran.{Ran as Accepted}
use Rattle.inplace.specs.declared.Spent.{Spent}
use Rattle.inplace.specs.InPlace.{Carried}
use Rattle.inplace.specs.Carry.{carry_refusal}
use Rattle.inplace.proofs.Running.{Small, small}
use Rattle.interpreter.specs.Run.{Ran, limit, within_limit, zero_tally, tallied, run_refusal, refused_of, accepted_of, run_answer}
use Rattle.interpreter.specs.Run.{ran, ran_on, in_turn, RunPromise, LentPromise}

-- each number of a tally within its limit
pub record Within (t : Tally) : Type 0 where
  pub bytes : t.bytes ≤ limit
  pub busy : t.busy ≤ limit
  pub flickerless : t.flickerless ≤ limit
  pub worst : t.worst ≤ limit

pub within : (t : Tally) → within_limit t ≡ true → Within t
unfolding within_limit
within t e =
    let p = both (leb t.bytes limit && leb t.busy limit && leb t.flickerless limit) (leb t.worst limit) e in
    let q = both (leb t.bytes limit && leb t.busy limit) (leb t.flickerless limit) p.0 in
    let r = both (leb t.bytes limit) (leb t.busy limit) q.0 in
    record {
      bytes = leb-true t.bytes limit r.0;
      busy = leb-true t.busy limit r.1;
      flickerless = leb-true t.flickerless limit q.1;
      worst = leb-true t.worst limit p.1;
    }

-- refused, by its number
not-run : (c : Condition) (t : Tally) (bs : List ℕ) (r : Ran) (n : ℕ) → r ≡ refused_of n c t → run_refusal c t bs ≡ n → (n ≡ 0 → ⊥)
    → r ≡ run_answer c t bs
unfolding run_answer
not-run c t bs r n e f h = e ∙ sym (rw (f, ne_eqb n 0 h))

-- within its limits, a run is refused as carrying its bytes out is, and then by 5
run-or-carry : (c : Condition) (t : Tally) (bs : List ℕ) → within_limit t ≡ true
    → run_refusal c t bs ≡ cond (eqb (carry_refusal c bs) 0) (cond (not (within_limit (tallied t c bs))) 5 0) (carry_refusal c bs)
unfolding run_refusal carry_refusal
run-or-carry c t bs l = rw l (go (well_formed c) (ltb 32768 (length bs)) (cond (not (within_limit (tallied t c bs))) 5 0))
  where
    go : (w x : Bool) (n : ℕ)
        → cond (not (w && true)) 3 (cond x 4 n) ≡ cond (eqb (cond (not w) 3 (cond x 4 0)) 0) n (cond (not w) 3 (cond x 4 0))
    go true true n = refl
    go true false n = refl
    go false x n = refl

-- a condition that is not well formed is refused by 3, whatever else is wrong
pub run-unformed : (c : Condition) (t : Tally) (bs : List ℕ) → well_formed c ≡ false → (run_answer c t bs).refusal ≡ 3
unfolding run_answer run_refusal
run-unformed c t bs w = rw w

refusal-of : (c : Condition) (t : Tally) (bs : List ℕ) → (run_answer c t bs).refusal ≡ run_refusal c t bs
unfolding run_answer
refusal-of c t bs = number_by (λ (r : Ran). r.refusal) (run_refusal c t bs) refl refl

-- a refused answer is its number alone, for the condition and the tally that were lent
pub by-number : (c : Condition) (t : Tally) (bs : List ℕ) (r : Ran) → r ≡ run_answer c t bs → (r.refusal ≡ 0 → ⊥)
    → refused_of r.refusal c t ≡ run_answer c t bs
by-number c t bs r e = not-run c t bs _ r.refusal refl (sym (refusal-of c t bs) ∙ sym (ap (λ (s : Ran). s.refusal) e))

pub not-refused : (c : Condition) (t : Tally) (bs : List ℕ) → (run_answer c t bs).refusal ≡ 0
    → run_answer c t bs ≡ accepted_of c t bs
unfolding run_answer
not-refused c t bs =
    by-test (λ (r : Ran). r.refusal ≡ 0 → r ≡ accepted_of c t bs) (eqb (run_refusal c t bs) 0) (λ _ _. refl)
    (λ e z. absurd (eqb-false (run_refusal c t bs) 0 e z))

-- what an accepted run tells of the condition and the tally that it got
module _ (c : Condition) (t : Tally) (bs : List ℕ) (z : (run_answer c t bs).refusal ≡ 0) where
  tells : (well_formed c ≡ true) × (within_limit (tallied t c bs) ≡ true)
  unfolding run_refusal
  tells =
      let p = passed (not (well_formed c && within_limit t)) 2 _ (sym (refusal-of c t bs) ∙ z) in
      let q = passed (ltb 32768 (length bs)) 3 _ p.1 in
      let l = passed (not (within_limit (tallied t c bs))) 4 0 q.1 in
      ((both (well_formed c) (within_limit t) (not-false _ p.0)).0, not-false _ l.0)

  -- its tally is within its limits
  pub ran-within : Within (run_answer c t bs).tally
  ran-within = rw (not-refused c t bs z) (within (tallied t c bs) tells.1)

-- an accepted run leaves a well-formed condition
pub promise : (c : Condition) (t : Tally) (bs : List ℕ) (r : Ran) → Sized c → ((i : ℕ) → get_or bs i 0 < 256)
    → r ≡ run_answer c t bs → RunPromise c t bs r
promise c t bs r s b e =
    record {
      answer = e;
      kept = λ z.
          let y : (run_answer c t bs).refusal ≡ 0 = sym (ap (λ (r : Ran). r.refusal) e) ∙ z in
          ap (λ (r : Ran). well_formed r.condition) (e ∙ not-refused c t bs y) ∙ run-kept c bs s b (tells c t bs y).0;
    }

-- a run keeps what its bytes keep: the arrays' lengths, and an index that is the list's
module _ (c : Condition) (t : Tally) (bs : List ℕ) where
  ran-kept : (P : Condition → Type 0) → P c → P (run_of c bs) → P (run_answer c t bs).condition
  unfolding run_answer
  ran-kept P p q = by-test (λ (r : Ran). P r.condition) (eqb (run_refusal c t bs) 0) (λ _. q) (λ _. p)

  pub ran-sized : Sized c → Sized (run_answer c t bs).condition
  ran-sized s = ran-kept Sized s (run-sized c bs s)

  pub ran-indexed : Indexed c → Indexed (run_answer c t bs).condition
  ran-indexed x = ran-kept Indexed x (run-indexed c bs x)

module _ (c : Condition) (t : Tally) (bs : List ℕ) (r : Ran) where
  -- a refused run leaves nothing that has to be well formed
  pub refuses : (n : ℕ) → r ≡ refused_of n c t → (n ≡ 0 → ⊥) → r ≡ run_answer c t bs → RunPromise c t bs r
  refuses n e h a = record { answer = a; kept = λ z. absurd (h (sym (ap (λ (r : Ran). r.refusal) e) ∙ z)) }

  -- each way's answer, and with it what a run by value promises
  pub above-limit-is : within_limit t ≡ false → r ≡ refused_of 3 c t → r ≡ run_answer c t bs
  unfolding run_refusal
  above-limit-is l e = not-run c t bs r 3 e (rw (l, and-false)) (λ z. omega arith)

  pub above-limit : within_limit t ≡ false → r ≡ refused_of 3 c t → RunPromise c t bs r
  above-limit l e = refuses 3 e (λ z. omega arith) (above-limit-is l e)

  module _ (l : within_limit t ≡ true) where
    pub not_carried-is : (n : ℕ) → n ≡ carry_refusal c bs → (n ≡ 0 → ⊥) → r ≡ refused_of n c t → r ≡ run_answer c t bs
    not_carried-is n f h e =
        let k : eqb (carry_refusal c bs) 0 ≡ false = ne_eqb (carry_refusal c bs) 0 (λ z. h (f ∙ z)) in
        not-run c t bs r n e (run-or-carry c t bs l ∙ rw (k, f)) h

    pub not_carried : (n : ℕ) → n ≡ carry_refusal c bs → (n ≡ 0 → ⊥) → r ≡ refused_of n c t → RunPromise c t bs r
    not_carried n f h e = refuses n e h (not_carried-is n f h e)

    module _ (k : carry_refusal c bs ≡ 0) where
      left : run_refusal c t bs ≡ cond (not (within_limit (tallied t c bs))) 5 0
      left = run-or-carry c t bs l ∙ rw (eq-eqb (carry_refusal c bs) 0 k)

      pub passes-limit-is : within_limit (tallied t c bs) ≡ false → r ≡ refused_of 5 c t → r ≡ run_answer c t bs
      passes-limit-is m e = not-run c t bs r 5 e (left ∙ rw m) (λ z. omega arith)

      pub passes-limit : within_limit (tallied t c bs) ≡ false → r ≡ refused_of 5 c t → RunPromise c t bs r
      passes-limit m e = refuses 5 e (λ z. omega arith) (passes-limit-is m e)

      pub accepted-is : within_limit (tallied t c bs) ≡ true → r ≡ accepted_of c t bs → r ≡ run_answer c t bs
      unfolding run_answer
      accepted-is m e = e ∙ sym (rw (left, m))

      pub accepted : within_limit (tallied t c bs) ≡ true → Sized c → ((i : ℕ) → get_or bs i 0 < 256)
          → r ≡ accepted_of c t bs → RunPromise c t bs r
      accepted m s b e = promise c t bs r s b (accepted-is m e)

module _ (c k : Condition) (bs : List ℕ) (spent : Spent) (g : Carried c bs k spent) where
  -- what a run adds is small
  pub adds : length bs ≤ 32768 → Small spent
  adds h = rw g.spends (small c bs h)

  -- the tally, brought up to date
  abbrev added : Tally → Tally
  added t =
      record {
        bytes = t.bytes + length bs;
        busy = t.busy + spent.busy;
        flickerless = t.flickerless + spent.flickerless;
        worst = t.worst + spent.worst;
      }

  pub tallies : (t : Tally) → added t ≡ tallied t c bs
  unfolding tallied
  tallies t = rw g.spends

  pub ran_as : (t : Tally) → ◌≡◌ {A = Ran} (record { refusal = 0; condition = k; tally = added t }) (accepted_of c t bs)
  ran_as t = rw (g.leaves, tallies t)

-- After any runs from the zero tally, the worst total is the busy one and 200 more for each flickerless byte --------------------

abbrev pub Balanced : Tally → Type 0
Balanced t = t.worst ≡ t.busy + 200 * t.flickerless

balanced : (c : Condition) (t : Tally) (bs : List ℕ) → Balanced t → Balanced (run_answer c t bs).tally
unfolding run_answer tallied
balanced c t bs e =
    by-test (λ (r : Ran). Balanced r.tally) (eqb (run_refusal c t bs) 0) (λ _. omega (arith, e, worst-law c bs)) (λ _. e)

stays : (c : Condition) (t : Tally) (pieces : List (List ℕ)) → Balanced t → Balanced (in_turn c t pieces).tally
unfolding in_turn
stays c t [] e = e
stays c t (bs ∷ pieces) e =
    let r = run_answer c t bs in
    let b = balanced c t bs e in
    by-test (λ (r : Ran). Balanced r.tally) (eqb r.refusal 0) (λ _. stays r.condition r.tally pieces b) (λ _. b)

pub began-at-zero : (c : Condition) (pieces : List (List ℕ)) → Balanced (in_turn c zero_tally pieces).tally
began-at-zero c pieces = stays c zero_tally pieces refl

-- Any two answers that a promise allows are equal --------------------------------------------------------------------------

pub one-run : (c : Condition) (t : Tally) (bs : List ℕ) (r s : Ran) → RunPromise c t bs r → RunPromise c t bs s → r ≡ s
one-run c t bs r s p q = p.answer ∙ sym q.answer

pub one-lent-run : (c : Condition) (t : Tally) (bs : List ℕ) (r s : Ran) (x y : Tally)
    → LentPromise c t bs r x → LentPromise c t bs s y → (r ≡ s) × (x ≡ y)
one-lent-run c t bs r s x y p q =
    let e : r ≡ s = one-run c t bs r s p.ran q.ran in
    (e, p.stored ∙ ap (λ (k : Ran). k.tally) e ∙ sym q.stored)

-- and so are any two answers of the code
abbrev of-ran : Ran → Accepted
of-ran r = record { condition = r.condition; tally = r.tally }

pub one-ran : (c : Condition) (t : Tally) (r s : Result Accepted Refusal) → ran c t r ≡ ran c t s → r ≡ s
one-ran c t = one-answer (ran c t) (λ a. a.refusal) of-ran (λ _. refl) (λ _. refl) (λ _. refl)

pub same-run : (c : Condition) (t : Tally) (bs : List ℕ) (r s : Result Accepted Refusal)
    → RunPromise c t bs (ran c t r) → RunPromise c t bs (ran c t s) → r ≡ s
same-run c t bs r s p q = one-ran c t r s (one-run c t bs (ran c t r) (ran c t s) p q)

pub same-lent-run : (c : Condition) (t : Tally) (bs : List ℕ) (r s : Result Accepted Refusal) (x y : Tally)
    → LentPromise c t bs (ran c t r) x → LentPromise c t bs (ran c t s) y → (r ≡ s) × (x ≡ y)
same-lent-run c t bs r s x y p q =
    let e = one-lent-run c t bs (ran c t r) (ran c t s) x y p q in
    (one-ran c t r s e.0, e.1)

-- of a run on what is lent, what it leaves there too
pub same-run_on : (c : Condition) (t : Tally) (bs : List ℕ) (r s : Result (Unit {0}) Refusal) (k j : Condition) (x y : Tally)
    → ran_on r k x ≡ run_answer c t bs → ran_on s j y ≡ run_answer c t bs → (r ≡ s) × (k ≡ j) × (x ≡ y)
same-run_on c t bs r s k j x y p q =
    let e : ran_on r k x ≡ ran_on s j y = p ∙ sym q in (
      one-answer refusal_in (λ n. n) (λ _. tt) (λ _. refl) (λ _. refl) (λ _. refl) r s (ap (λ (a : Ran). a.refusal) e),
      ap (λ (a : Ran). a.condition) e,
      ap (λ (a : Ran). a.tally) e,
    )

-- One run or several with the same bytes in turn end alike where no piece and no whole is refused ------------------------------

accepted-append : (c : Condition) (t : Tally) (xs ys : List ℕ)
    → accepted_of (run_of c xs) (tallied t c xs) ys ≡ accepted_of c t (xs ++ ys)
unfolding tallied
accepted-append c t xs ys =
    rw (
      run-append c xs ys,
      length-append xs ys,
      total-append quick_figure c xs ys,
      total-append while_on c xs ys,
      total-append worst_figure c xs ys,
      ← add_assoc t.bytes (length xs) (length ys),
      ← add_assoc t.busy (busy_of c xs) (busy_of (run_of c xs) ys),
      ← add_assoc t.flickerless (flickerless_of c xs) (flickerless_of (run_of c xs) ys),
      ← add_assoc t.worst (worst_of c xs) (worst_of (run_of c xs) ys),
    )

turns : (c : Condition) (t : Tally) (pieces : List (List ℕ))
    → (in_turn c t pieces).refusal ≡ 0 → in_turn c t pieces ≡ accepted_of c t (flatten pieces)
unfolding in_turn flatten run_of tallied total_of
turns c t [] = λ _. simp add-zero
turns c t (bs ∷ pieces) =
    by-test (λ (r : Ran). r.refusal ≡ 0 → r ≡ accepted_of c t (bs ++ flatten pieces)) (eqb (run_answer c t bs).refusal 0)
    (λ e.
    rw (not-refused c t bs (eqb-true (run_answer c t bs).refusal 0 e))
    (λ z. turns (run_of c bs) (tallied t c bs) pieces z ∙ accepted-append c t bs (flatten pieces)))
    (λ e z. absurd (eqb-false (run_answer c t bs).refusal 0 e z))

pub in_pieces : (c : Condition) (t : Tally) (pieces : List (List ℕ)) (r : Ran) → RunPromise c t (flatten pieces) r
    → r.refusal ≡ 0 → (in_turn c t pieces).refusal ≡ 0 → r ≡ in_turn c t pieces
in_pieces c t pieces r p z y = p.answer ∙ not-refused c t (flatten pieces) (rw p.answer at z) ∙ sym (turns c t pieces y)

-- and two runs, of which neither is refused, nor the one with the bytes of both
pub two_runs : (c : Condition) (t : Tally) (xs ys : List ℕ) → (run_answer c t xs).refusal ≡ 0
    → (run_answer (run_answer c t xs).condition (run_answer c t xs).tally ys).refusal ≡ 0 → (run_answer c t (xs ++ ys)).refusal ≡ 0
    → run_answer (run_answer c t xs).condition (run_answer c t xs).tally ys ≡ run_answer c t (xs ++ ys)
two_runs c t xs ys p q w =
    let r = run_answer c t xs in
    let e : r ≡ accepted_of c t xs = not-refused c t xs p in
    not-refused r.condition r.tally ys q ∙ ap (λ (k : Ran). accepted_of k.condition k.tally ys) e
    ∙ accepted-append c t xs ys ∙ sym (not-refused c t (xs ++ ys) w)
