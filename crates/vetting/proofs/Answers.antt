-- What a verdict means: a yes exactly where the string gives the picture, and the excess over the shortest.
use Prim.Native.Nat.{ℕ, ◌≤◌, ◌<◌}
use mathlib.Core.Path.{◌≡◌, refl, sym, ap, ◌∙◌}
use mathlib.Core.Bool.{Bool, true, false, not, ◌&&◌}
use mathlib.Core.List.{List, [], ◌∷◌}
use native.Mathlib.Omega.{arith}
use lib.Dec.{eqb, ltb, leb}
use lib.ListN.{length, get_or, replicate, length-replicate, get_or-replicate}
use lib.Seq.{ext_get_or}
use borrow.Author.Tests.{eq-eqb, eqb-true, eqb-false, ne_eqb, ltb-true, ltb-false, lt-ltb, not-false}
use Rattle.laws.proofs.Tests.{by_cases, clash, both, passed}
use Rattle.condition.specs.declared.Condition.{Condition}
use Rattle.condition.specs.Condition.{Outcome}
use Rattle.condition.specs.Condition.{well_formed}
use Rattle.condition.specs.Bytes.{run_of}
use Rattle.condition.proofs.Good.{Sized, run-sized}
use Rattle.layout.specs.Layout.{condition_in}
use Rattle.layout.proofs.PackedBack.{sized-in}
use Rattle.block.specs.Reading.{read_refusal}
use Rattle.block.proofs.RoundTrip as R
use Rattle.host.specs.Host.{opened_of, host_refusal_by}
use Rattle.host.proofs.Once.{damaged-by, in_block, left-to}
use Rattle.planner.specs.Plan.{flagged}
use Rattle.planner.specs.Fonts.{wrong_cell}
use Rattle.planner.specs.Answer.{plan_refusal}
use Rattle.planner.proofs.Costs.{flagged-none, unflagged}
use Rattle.planner.proofs.Refusals.{unformed, accepted, plan-delivers}
use Rattle.vetting.specs.Verdicts.{Verdict, Refused, Byte, Cell, Cursor, Yes}
use Rattle.vetting.specs.Vetting.{permitted, Gives, wrong_after, picture_verdict, excess_over, judged_of, long_refusal, vet_refusal}
use Rattle.vetting.specs.Vetting.{block_refusal, block_verdict}
use Rattle.vetting.specs.Vetting.{verdict_by, is_yes, excess_in, Exceeds, Promise, Vets, VetsBlock}

-- The picture -------------------------------------------------------------------------------------------------------------------

-- no cell is wrong exactly where the codes are the wanted ones, each in the font f
module _ (cs fs ws : List ℕ) (f : ℕ) (lc : length cs ≡ 40) (lf : length fs ≡ 40) (lw : length ws ≡ 40) where
  abbrev bad : ℕ → Bool
  bad i = wrong_cell (get_or cs i 0) (get_or fs i 0) (get_or ws i 0) f

  right_there : flagged bad 40 0 ≡ [] → (cs ≡ ws) × (fs ≡ replicate 40 f)
  right_there e = (
    ext_get_or 0 cs ws (lc ∙ sym lw) (λ i h. eqb-true _ _ (right i (omega arith)).0),
    ext_get_or 0 fs (replicate 40 f) (lf ∙ sym (length-replicate 40 f))
        (λ i h. eqb-true _ _ (right i (omega arith)).1 ∙ sym (get_or-replicate 40 i f 0 (omega arith))),
  )
    where
      right : (i : ℕ) → i < 40 → (eqb (get_or cs i 0) (get_or ws i 0) ≡ true) × (eqb (get_or fs i 0) f ≡ true)
      right i h = both (eqb (get_or cs i 0) (get_or ws i 0)) (eqb (get_or fs i 0) f)
          (not-false _ (unflagged bad 40 0 e i (omega arith) (omega arith)))

  there-right : cs ≡ ws → fs ≡ replicate 40 f → flagged bad 40 0 ≡ []
  there-right ec ef =
      flagged-none bad 40 0
      (λ j h. rw (
        eq-eqb (get_or cs j 0) (get_or ws j 0) (ap (λ (l : List ℕ). get_or l j 0) ec),
        eq-eqb (get_or fs j 0) f (ap (λ (l : List ℕ). get_or l j 0) ef ∙ get_or-replicate 40 j f 0 (omega arith)),
      ))

-- by what is told of the cells and of the cursor
picture-yes : (places : List ℕ) (there : Bool) (n : ℕ) → is_yes (picture_verdict places there n) ≡ true
    → (places ≡ []) × (there ≡ true)
picture-yes [] true n e = (refl, refl)
picture-yes [] false n e = clash e refl
picture-yes (x ∷ xs) there n e = clash e refl

module _ (c : Condition) (wanted : List ℕ) (asked : ℕ) (string : List ℕ) (s : Sized c)
    (ok : plan_refusal c wanted asked 44 ≡ 0) where
  after : Sized (run_of c string)
  after = run-sized c string s

  long : length wanted ≡ 40
  long = (accepted c wanted asked 44 ok).0.wanted-40

  judged-gives : is_yes (judged_of c wanted asked string) ≡ true → Gives c wanted asked string
  unfolding judged_of wrong_after
  judged-gives e =
      by_cases (permitted c string)
      (λ p.
      let y = picture-yes (wrong_after c wanted string) (eqb (run_of c string).cursor asked) (excess_over c wanted asked string)
      (rw p at e) in
      let t = right_there (run_of c string).codes (run_of c string).fonts wanted c.font after.codes-40 after.fonts-40 long
      y.0 in
      record { steps = p; picture = record { codes = t.0; fonts = t.1; cursor = eqb-true _ asked y.1 } })
      (λ p. clash (rw p at e) refl)

  -- a string that gives the picture is a yes, with what it has more than the shortest
  gives-yes : Gives c wanted asked string → judged_of c wanted asked string ≡ Yes (excess_over c wanted asked string)
  unfolding judged_of wrong_after
  gives-yes g =
      let p = g.picture in
      rw (
        g.steps,
        there-right (run_of c string).codes (run_of c string).fonts wanted c.font after.codes-40 after.fonts-40 long
            p.codes p.fonts,
        eq-eqb (run_of c string).cursor asked p.cursor,
      )

  exceeds : Gives c wanted asked string → Exceeds c wanted asked string (excess_over c wanted asked string)
  exceeds g =
      let d = plan-delivers c wanted asked 44 ok s.codes-40 s.fonts-40 in
      record { over = omega (arith, d.fewest string g.steps g.picture); shortest = d }

-- Any verdict by its number -------------------------------------------------------------------------------------------------------

module _ (number : ℕ) (c : Condition) (wanted : List ℕ) (asked : ℕ) (string : List ℕ)
    (fit : number ≡ 0 → Sized c × (plan_refusal c wanted asked 44 ≡ 0)) where
  abbrev said : Verdict
  said = verdict_by number (judged_of c wanted asked string)

  yes-gives : is_yes said ≡ true → (number ≡ 0) × Gives c wanted asked string
  unfolding verdict_by
  yes-gives e =
      by_cases (eqb number 0)
      (λ z. let n = eqb-true number 0 z in (n, judged-gives c wanted asked string (fit n).0 (fit n).1 (rw z at e)))
      (λ z. clash (rw z at e) refl)

  said-yes : (number ≡ 0) × Gives c wanted asked string → said ≡ Yes (excess_over c wanted asked string)
  unfolding verdict_by
  said-yes g = rw (eq-eqb number 0 g.0) (gives-yes c wanted asked string (fit g.0).0 (fit g.0).1 g.1)

  -- what it promises
  pub promised : (r : Verdict) → r ≡ said → Promise number c wanted asked string r
  promised r e =
      rw e
      (record {
        answer = refl;
        exactly = (yes-gives, λ g. ap is_yes (said-yes g));
        excess = λ y.
            let g = yes-gives y in
            rw (said-yes g) (exceeds c wanted asked string (fit g.0).0 (fit g.0).1 g.1);
      })

-- any two allowed answers are equal
pub one-verdict : (number : ℕ) (c : Condition) (wanted : List ℕ) (asked : ℕ) (string : List ℕ) (r q : Verdict)
    → Promise number c wanted asked string r → Promise number c wanted asked string q → r ≡ q
one-verdict number c wanted asked string r q f g = f.answer ∙ sym g.answer

-- Refusals ------------------------------------------------------------------------------------------------------------------------

-- nothing is refused: the planner refuses nothing, and the string is not too long
pub none-long : (n size : ℕ) → long_refusal n size ≡ 0 → (n ≡ 0) × (size ≤ 32768)
unfolding long_refusal
none-long n size e =
    by_cases (ltb 0 n && leb n 3)
    (λ t. let z : n ≡ 0 = rw t at e in let l = ltb-true 0 n (both (ltb 0 n) _ t).0 in absurd (omega arith))
    (λ t. let p = passed (ltb 32768 size) 3 n (rw t at e) in (p.1, ltb-false 32768 size p.0))

pub vet-accepted : (c : Condition) (wanted : List ℕ) (asked : ℕ) (string : List ℕ) → vet_refusal c wanted asked string ≡ 0
    → (plan_refusal c wanted asked 44 ≡ 0) × (length string ≤ 32768)
unfolding vet_refusal
vet-accepted c wanted asked string e = none-long (plan_refusal c wanted asked 44) (length string) e

-- a condition that is not well formed is refused by 3 where there are 40 codes, whatever else is wrong
pub vet-unformed : (c : Condition) (wanted : List ℕ) (asked : ℕ) (string : List ℕ) → eqb (length wanted) 40 ≡ true
    → well_formed c ≡ false → vet_refusal c wanted asked string ≡ 3
unfolding vet_refusal long_refusal plan_refusal
vet-unformed c wanted asked string h w = rw (unformed (eqb (length wanted) 40) _ _ _ c wanted h w)

-- What `vet` answers --------------------------------------------------------------------------------------------------------------

module _ (c : Condition) (wanted : List ℕ) (asked : ℕ) (string : List ℕ) (s : Sized c) (n : ℕ)
    (e : n ≡ vet_refusal c wanted asked string) where
  by_number : (r : Verdict) → r ≡ verdict_by (vet_refusal c wanted asked string) (judged_of c wanted asked string)
      → Vets c wanted asked string r
  by_number = promised _ c wanted asked string (λ z. (s, (vet-accepted c wanted asked string z).0))

  pub vet-refused : (n ≡ 0 → ⊥) → Vets c wanted asked string (Refused n)
  unfolding verdict_by
  vet-refused z = by_number _ (rw (← e, ne_eqb n 0 z))

  pub vet-judged : n ≡ 0 → (r : Verdict) → r ≡ judged_of c wanted asked string → Vets c wanted asked string r
  unfolding verdict_by
  vet-judged z r q = by_number r (q ∙ rw (← e, z))

-- What `vet_block` answers --------------------------------------------------------------------------------------------------------

module _ (b wanted : List ℕ) (asked : ℕ) (string : List ℕ) where
  block-accepted : block_refusal b wanted asked string ≡ 0
      → Sized (condition_in b) × (plan_refusal (condition_in b) wanted asked 44 ≡ 0) × (length string ≤ 32768)
  unfolding block_refusal host_refusal_by
  block-accepted e =
      let p = passed (not (eqb (length wanted) 40)) 0 _ e in
      by_cases (eqb (read_refusal b) 0)
      (λ z. let m : vet_refusal (condition_in b) wanted asked string ≡ 0 = rw z at p.1 in (
        sized-in b (omega (arith, (R.accepted b (eqb-true (read_refusal b) 0 z)).long)),
        (vet-accepted (condition_in b) wanted asked string m).0,
        (vet-accepted (condition_in b) wanted asked string m).1,
      ))
      (λ z. absurd (eqb-false (read_refusal b) 0 z (rw z at p.1)))

  by-block : (r : Verdict) → r ≡ verdict_by (block_refusal b wanted asked string) (judged_of (condition_in b) wanted asked string)
      → VetsBlock b wanted asked string r
  by-block = promised _ (condition_in b) wanted asked string (λ z. ((block-accepted z).0, (block-accepted z).1))

  refused-by : (n : ℕ) → block_refusal b wanted asked string ≡ n → (n ≡ 0 → ⊥) → VetsBlock b wanted asked string (Refused n)
  unfolding verdict_by
  refused-by n e z = by-block _ (rw (e, ne_eqb n 0 z))

  pub block-short : (length wanted ≡ 40 → ⊥) → VetsBlock b wanted asked string (Refused 1)
  unfolding block_refusal host_refusal_by
  block-short h = refused-by 1 (rw (ne_eqb (length wanted) 40 h)) (λ z. omega arith)

  module _ (g : Outcome) (o : g ≡ opened_of b) (h : length wanted ≡ 40) where
    fit : eqb (length wanted) 40 ≡ true
    fit = eq-eqb (length wanted) 40 h

    pub block-damaged : (g.refusal ≡ 0 → ⊥) → VetsBlock b wanted asked string (Refused g.refusal)
    unfolding block_refusal
    block-damaged z = refused-by g.refusal (rw fit (damaged-by b g o _ z)) z

    pub block-vetted : g.refusal ≡ 0 → (r : Verdict) → Vets g.condition wanted asked string r → VetsBlock b wanted asked string r
    unfolding block_refusal
    block-vetted z r v =
        let c = condition_in b in
        let n : block_refusal b wanted asked string ≡ vet_refusal c wanted asked string =
        rw fit (left-to b g o z _ (vet-unformed c wanted asked string fit)) in
        let q : r ≡ verdict_by (vet_refusal c wanted asked string) (judged_of c wanted asked string) =
        rw (in_block b g o z) at v.answer in
        by-block r (q ∙ ap (λ (m : ℕ). verdict_by m (judged_of c wanted asked string)) (sym n))

-- the excess is no more than a string may have
pub excess-most : (b wanted : List ℕ) (asked : ℕ) (string : List ℕ) (r : Verdict) → VetsBlock b wanted asked string r
    → excess_in r ≤ 32768
excess-most b wanted asked string (Refused n) v = omega arith
excess-most b wanted asked string (Byte at) v = omega arith
excess-most b wanted asked string (Cell place) v = omega arith
excess-most b wanted asked string Cursor v = omega arith
excess-most b wanted asked string (Yes excess) v =
    omega (arith, (v.excess refl).over, (block-accepted b wanted asked string (v.exactly.0 refl).0).2)

-- What decides a verdict ----------------------------------------------------------------------------------------------------------

-- what is no block is refused by 1, whatever else is wrong
pub no_block : (b wanted : List ℕ) (asked : ℕ) (string : List ℕ) → (length b ≡ 512 → ⊥)
    → block_verdict b wanted asked string ≡ Refused 1
unfolding verdict_by block_refusal host_refusal_by read_refusal
no_block b wanted asked string h =
    rw (ne_eqb (length b) 512 h) (by_cases (eqb (length wanted) 40) (λ e. rw e) (λ e. rw e))

-- of a string that is too long nothing but that counts
module _ (b wanted : List ℕ) (asked : ℕ) (s t : List ℕ) (hs : 32768 < length s) (ht : 32768 < length t) where
  long-number : block_refusal b wanted asked s ≡ block_refusal b wanted asked t
  unfolding block_refusal vet_refusal long_refusal
  long-number = rw (lt-ltb 32768 (length s) hs, lt-ltb 32768 (length t) ht)

  long-refused : (s : List ℕ) → 32768 < length s → eqb (block_refusal b wanted asked s) 0 ≡ false
  long-refused s h = ne_eqb _ 0 (λ z. absurd (omega (arith, (block-accepted b wanted asked s z).2)))

  pub too_long : block_verdict b wanted asked s ≡ block_verdict b wanted asked t
  unfolding verdict_by
  too_long = rw (long-refused s hs, long-refused t ht, long-number)
