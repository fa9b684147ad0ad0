-- What each way through a reading and a writing comes to.
use Prim.Native.Nat.{ℕ, ◌≤◌, ◌<◌}
use mathlib.Core.Path.{◌≡◌, refl, ap, sym, ◌∙◌}
use mathlib.Core.Bool.{Bool, true, false, cond}
use mathlib.Core.List.{List, ◌++◌}
use native.Mathlib.Omega.{arith}
use lib.ListN.{length, take, drop}
use lib.Seq.{take_at}
use borrow.Author.Tests.{ne_eqb, lt-ltb, le-ltb}
use Rattle.std.specs.Prelude.{Option, None, Some, Result}
use Rattle.refusals.specs.declared.Refusal.{Refusal}
use Rattle.refusals.specs.Refusals.{number_or_none}
use Rattle.refusals.proofs.Laws.{one-answer}
use Rattle.condition.specs.declared.Condition.{Condition}
use Rattle.condition.specs.Condition.{well_formed, Outcome, outcome}
use Rattle.layout.specs.Layout.{unpacked_of}
use Rattle.block.specs.Block.{block_of}
use Rattle.block.specs.Reading.{read_refusal, damage_of, refused_of, read_answer, ReadPromise}
use Rattle.block.specs.Writing.{Written, write_refusal, write_answer, write_out, WritePromise}
use Rattle.block.specs.Writing.{written as told_of}
use Rattle.condition.proofs.Good.{Sized}
use Rattle.condition.proofs.Kept.{one-outcome}
use Rattle.block.proofs.Sealing.{length-block}
use Rattle.block.proofs.Damaged.{read_by, whole-unpacked}
use Rattle.block.proofs.RoundTrip.{reread, rewritten, read-formed}

-- Refusals -----------------------------------------------------------------------------------------------------------------

-- no refusal
pub number-of-none : (r : Option Refusal) → ((e : Refusal) → r ≡ Some e → ⊥) → number_or_none r ≡ 0
number-of-none None h = refl
number-of-none (Some e) h = absurd (h e refl)

-- A reading ----------------------------------------------------------------------------------------------------------------

promised : (b : List ℕ) (r : Outcome) → r ≡ read_answer b → ReadPromise b r
promised b r e =
    record {
      answer = e;
      formed = ap (λ (r : Outcome). well_formed r.condition) e ∙ read-formed b;
      again = λ h. ap (λ (r : Outcome). block_of r.condition) e ∙ rewritten b (sym (ap (λ (r : Outcome). r.refusal) e) ∙ h);
    }

-- refused, by its number
unread : (b : List ℕ) (r : Outcome) (n : ℕ) → r ≡ refused_of n → read_refusal b ≡ n → (n ≡ 0 → ⊥) → ReadPromise b r
unfolding read_answer
unread b r n e f h = promised b r (e ∙ sym (rw (f, ne_eqb n 0 h)))

pub damaged-read : (b : List ℕ) (r : Outcome) (n : ℕ) → n ≡ damage_of b → (n ≡ 0 → ⊥) → r ≡ refused_of n → ReadPromise b r
damaged-read b r n d h e = unread b r n e (read_by b ∙ rw (← d, ne_eqb n 0 h)) h

-- a block that is not damaged, with w what is said of the condition that stands in it
module _ (b : List ℕ) (n : ℕ) (w : Bool) (d : n ≡ damage_of b) (z : n ≡ 0) (ew : w ≡ well_formed (unpacked_of b)) where
  told : read_refusal b ≡ cond w 0 3
  told = read_by b ∙ rw (← d, z, ew, whole-unpacked b (sym d ∙ z))

  pub unformed : w ≡ false → (r : Outcome) → r ≡ refused_of 3 → ReadPromise b r
  unformed f r e = unread b r 3 e (told ∙ rw f) (λ z. omega arith)

  pub taken : w ≡ true → (c : Condition) → c ≡ unpacked_of b → ReadPromise b (record { refusal = 0; condition = c })
  unfolding read_answer
  taken f c e = promised b (record { refusal = 0; condition = c }) (rw (told, f, e ∙ whole-unpacked b (sym d ∙ z)))

-- A writing ----------------------------------------------------------------------------------------------------------------

unwritten : (c : Condition) (out : List ℕ) (n : ℕ) → write_refusal c out ≡ n → (n ≡ 0 → ⊥)
    → WritePromise c out (record { refusal = n; length = 0 }) out
unfolding write_answer write_out
unwritten c out n e h =
    record { answer = rw (e, ne_eqb n 0 h); buffer = rw (e, ne_eqb n 0 h); back = λ z. absurd (h z) }

pub not-formed : (c : Condition) (out : List ℕ) → well_formed c ≡ false
    → WritePromise c out (record { refusal = 3; length = 0 }) out
unfolding write_refusal
not-formed c out w = unwritten c out 3 (rw w) (λ z. omega arith)

pub no_room : (c : Condition) (out : List ℕ) → well_formed c ≡ true → length out < 512
    → WritePromise c out (record { refusal = 10; length = 0 }) out
unfolding write_refusal
no_room c out w h = unwritten c out 10 (rw (w, lt-ltb (length out) 512 h)) (λ z. omega arith)

pub written : (c : Condition) (out left : List ℕ) → Sized c → well_formed c ≡ true → 512 ≤ length out
    → left ≡ block_of c ++ drop 512 out
    → WritePromise c out (record { refusal = 0; length = 512 }) left
unfolding write_answer write_out write_refusal
written c out left z w h e =
    record {
      answer = rw (w, le-ltb (length out) 512 h);
      buffer = rw (w, le-ltb (length out) 512 h) e;
      back =
          λ n. ap (λ (l : List ℕ). read_answer (take 512 l)) e
          ∙ ap read_answer (take_at (block_of c) (drop 512 out) 512 (length-block c z)) ∙ reread c z w;
    }

-- Any two answers that a promise allows are equal --------------------------------------------------------------------------

pub one-reading : (b : List ℕ) (r s : Outcome) → ReadPromise b r → ReadPromise b s → r ≡ s
one-reading b r s p q = p.answer ∙ sym q.answer

pub one-writing : (c : Condition) (out : List ℕ) (r s : Written) (x y : List ℕ)
    → WritePromise c out r x → WritePromise c out s y → (r ≡ s) × (x ≡ y)
one-writing c out r s x y p q = (p.answer ∙ sym q.answer, p.buffer ∙ sym q.buffer)

-- and so are any two answers of the code
pub same-reading : (b : List ℕ) (r s : Result Condition Refusal) → ReadPromise b (outcome r) → ReadPromise b (outcome s) → r ≡ s
same-reading b r s p q = one-outcome r s (one-reading b (outcome r) (outcome s) p q)

pub one-written : (r s : Result ℕ Refusal) → told_of r ≡ told_of s → r ≡ s
one-written = one-answer told_of (λ a. a.refusal) (λ a. a.length) (λ _. refl) (λ _. refl) (λ _. refl)

pub same-writing : (c : Condition) (out : List ℕ) (r s : Result ℕ Refusal) (x y : List ℕ)
    → WritePromise c out (told_of r) x → WritePromise c out (told_of s) y → (r ≡ s) × (x ≡ y)
same-writing c out r s x y p q =
    let e = one-writing c out (told_of r) (told_of s) x y p q in
    (one-written r s e.0, e.1)
