-- Writing and reading go back and forth.
use Prim.Native.Nat.{ℕ, ◌+◌, ◌/◌, ◌%◌}
use mathlib.Core.Path.{◌≡◌, refl, ap, sym, ◌∙◌}
use mathlib.Core.Bool.{true, not, ◌&&◌}
use mathlib.Core.List.{List, [], ◌∷◌, ◌++◌}
use native.Mathlib.Omega.{arith}
use lib.Dec.{eqb}
use lib.ListN.{length, get_or, length-append}
use lib.Seq.{get_or_at, append_snoc}
use borrow.Author.Tests.{eqb-true, eq-eqb, not-false}
use Rattle.laws.proofs.Tests.{both, by-test, passed, number_by}
use Rattle.row.specs.Row.{same_bytes}
use Rattle.row.proofs.Alike.{same-eq, same_refl}
use Rattle.condition.specs.declared.Condition.{Condition}
use Rattle.condition.specs.Condition.{well_formed, power_up, Outcome}
use Rattle.layout.specs.Layout.{head_of, packed_of, condition_in}
use Rattle.block.specs.Block.{check_of, body_of, seal_of, block_of}
use Rattle.block.specs.Reading.{intact, sound, read_refusal, read_answer, ReadPromise}
use Rattle.condition.proofs.Good.{Sized, Indexed, good}
use Rattle.condition.proofs.Kept.{power-up-good, power-up-sized}
use Rattle.layout.proofs.PackedBack.{back-with}
use Rattle.block.proofs.Sealing.{length-body, length-block, check-body}
use Rattle.block.proofs.Tidying.{block-parts}

-- What is written reads back the same --------------------------------------------------------------------------------------

pub condition-back : (c : Condition) → Sized c → Indexed c → condition_in (block_of c) ≡ c
condition-back c z x = ap condition_in (block-parts c) ∙ back-with c _ z x

started : (c : Condition)
    → (eqb (get_or (block_of c) 0 0) 0x56 && eqb (get_or (block_of c) 1 0) 0x4b && eqb (get_or (block_of c) 2 0) 0x01
    && true && true) ≡ true
unfolding block_of seal_of body_of packed_of head_of
started c = refl

pub intact-back : (c : Condition) → Sized c → intact (block_of c) ≡ true
unfolding intact block_of seal_of
intact-back c z =
    let k : ℕ = check_of (body_of c) in
    let same : check_of (block_of c) ≡ k = check-body (body_of c) (k % 256 ∷ k / 256 ∷ []) (length-body c z) in
    let low : get_or (block_of c) 510 0 ≡ k % 256 = get_or_at (body_of c) (k % 256) (k / 256 ∷ []) 0 510 (length-body c z) in
    let long : length (body_of c ++ (k % 256 ∷ [])) ≡ 511 = length-append (body_of c) _ ∙ ap (λ (n : ℕ). n + 1) (length-body c z) in
    let high : get_or (block_of c) 511 0 ≡ k / 256 =
    ap (λ (l : List ℕ). get_or l 511 0) (sym (append_snoc (body_of c) (k % 256) (k / 256 ∷ [])))
    ∙ get_or_at (body_of c ++ (k % 256 ∷ [])) (k / 256) [] 0 511 long in
    rw (same, low, high, eq-eqb (k % 256) (k % 256) refl, eq-eqb (k / 256) (k / 256) refl) (started c)

-- what a well-formed condition is written as is accepted, and is read as that condition
pub reread : (c : Condition) → Sized c → well_formed c ≡ true → read_answer (block_of c) ≡ record { refusal = 0; condition = c }
unfolding read_answer read_refusal sound
reread c z w = rw (eq-eqb _ _ (length-block c z), intact-back c z, condition-back c z (good c w).indexed, w, same_refl (block_of c))

-- What is accepted is written back the same --------------------------------------------------------------------------------

-- an accepted block
pub record Accepted (b : List ℕ) : Type 0 where
  pub long : length b ≡ 512
  pub whole : intact b ≡ true
  pub formed : well_formed (condition_in b) ≡ true
  pub same : block_of (condition_in b) ≡ b
  pub answer : read_answer b ≡ record { refusal = 0; condition = condition_in b }

answered : (b : List ℕ) → read_refusal b ≡ 0 → read_answer b ≡ record { refusal = 0; condition = condition_in b }
unfolding read_answer
answered b e = rw (eq-eqb _ _ e)

pub accepted : (b : List ℕ) → read_refusal b ≡ 0 → Accepted b
unfolding read_refusal sound
accepted b e =
    let fits = well_formed (condition_in b) && same_bytes (block_of (condition_in b)) b in
    let p1 = passed (not (eqb (length b) 512)) 0 _ e in
    let p2 = passed (not (intact b)) 1 _ p1.1 in
    let p3 = passed (not fits) 2 0 p2.1 in
    let f = both (well_formed (condition_in b)) _ (not-false fits p3.0) in
    record {
      long = eqb-true (length b) 512 (not-false _ p1.0);
      whole = not-false _ p2.0;
      formed = f.0;
      same = same-eq (block_of (condition_in b)) b f.1;
      answer = answered b e;
    }

-- the refusal of the answer
pub refusal-of : (b : List ℕ) → (read_answer b).refusal ≡ read_refusal b
unfolding read_answer
refusal-of b = number_by (λ (r : Outcome). r.refusal) (read_refusal b) refl refl

-- of a reading that was made
pub refused-by : (b : List ℕ) (o : Outcome) → ReadPromise b o → o.refusal ≡ read_refusal b
refused-by b o p = ap (λ (r : Outcome). r.refusal) p.answer ∙ refusal-of b

pub rewritten : (b : List ℕ) → (read_answer b).refusal ≡ 0 → block_of (read_answer b).condition ≡ b
rewritten b e =
    let a = accepted b (sym (refusal-of b) ∙ e) in
    ap (λ (r : Outcome). block_of r.condition) a.answer ∙ a.same

-- power-up for font 0 is well formed, so every reading is
pub read-formed : (b : List ℕ) → well_formed (read_answer b).condition ≡ true
unfolding read_answer
read-formed b =
    by-test (λ (o : Outcome). well_formed o.condition ≡ true) (eqb (read_refusal b) 0)
    (λ h. (accepted b (eqb-true _ _ h)).formed) (λ _. power-up-good 0 (omega arith))

-- and its block is accepted
pub power-up-accepted : read_refusal (block_of (power_up 0)) ≡ 0
power-up-accepted =
    let r = reread (power_up 0) (power-up-sized 0) (power-up-good 0 (omega arith)) in
    sym (refusal-of (block_of (power_up 0))) ∙ ap (λ (o : Outcome). o.refusal) r
