-- What the host's recovery answers: 256 plus 11 exactly when nothing helps.
use mathlib.Core.Path.{◌≡◌, sym, ap, ◌∙◌, subst}
use mathlib.Core.Logic.{◌↔◌}
use mathlib.Core.Bool.{true}
use mathlib.Core.List.{List}
use Prim.Native.Nat.{ℕ, ◌+◌, ◌<◌, ◌≤◌}
use native.Mathlib.Omega.{arith}
use lib.Dec.{eqb}
use lib.ListN.{length, take}
use borrow.Author.Tests.{eq-eqb, ne_eqb, eqb-true}
use Rattle.laws.proofs.Tests.{by_cases, by_equal}
use Rattle.condition.specs.declared.Condition.{Condition}
use Rattle.condition.specs.Condition.{well_formed, power_up}
use Rattle.layout.specs.Layout.{condition_in}
use Rattle.layout.proofs.PackedBack.{sized-in}
use Rattle.block.specs.Block.{block_of}
use Rattle.block.specs.Reading.{read_refusal}
use Rattle.block.proofs.Damaged.{read-most}
use Rattle.block.proofs.RoundTrip.{accepted}
use Rattle.interpreter.specs.Run.{Ran}
use Rattle.interpreter.proofs.Answers.{not-refused}
use Rattle.planner.specs.Answer.{Planned}
use Rattle.host.specs.declared.Base.TheVariants.{Plan}
use Rattle.host.specs.Host.{host_refusal_by, host_answer}
use Rattle.recovery.specs.Recovery.{get_back, PowersUp, NoWayBack, recover_refusal, Recovers}
use Rattle.recovery.proofs.Answers.{exactly}
use Rattle.sign.specs.Calls.{tally_at, HostRun, HostPromise, host_recover_refusal, HostRecovers}
use Rattle.sign.proofs.Hosted.{done, one-host-plan}

-- the refusal is 11 only where the block is accepted and the call refuses so
eleven : (b : List ℕ) (n : ℕ) → host_refusal_by true b n ≡ 11 → (read_refusal b ≡ 0) × (n ≡ 11)
unfolding host_refusal_by
eleven b n e =
    by_cases (eqb (read_refusal b) 0) (λ t. (eqb-true (read_refusal b) 0 t, rw t at e))
    (λ t. let m : read_refusal b ≡ 11 = rw t at e in absurd (omega (arith, read-most b)))

-- and the number is 267 only where the refusal is 11
number-267 : (n bytes : ℕ) → bytes ≤ 8 → host_answer Plan n bytes ≡ 267 → n ≡ 11
unfolding host_answer
number-267 n bytes h e =
    by_equal n 0 (λ z. let m : bytes ≡ 267 = rw (eq-eqb n 0 z) at e in absurd (omega arith))
    (λ z. let m : 256 + n ≡ 267 = rw (ne_eqb n 0 z) at e in omega arith)

pub host-exactly : (b out : List ℕ) (r : ℕ) (left : List ℕ)
    → HostPromise (host_recover_refusal b out) get_back (PowersUp (condition_in b)) out r left → HostRecovers b out r left
unfolding host_recover_refusal host_refusal_by host_answer get_back
host-exactly b out r left p =
    record {
      gives = p;
      exactly = (
        λ e.
            let m = eleven b (recover_refusal (condition_in b) (length out)) (number-267 _ 8 (omega arith) (sym p.answer ∙ e)) in
            (m.0, ((told m.0).0 m.1).1),
        λ q.
            let m = (told q.0).1 ((accepted b q.0).formed, q.1) in
            p.answer ∙ rw (q.0, m),
      );
    }
  where
    told : read_refusal b ≡ 0
        → (recover_refusal (condition_in b) (length out) ≡ 11) ↔
        ((well_formed (condition_in b) ≡ true) × NoWayBack (condition_in b))
    told z = exactly (condition_in b) (length out) (sized-in b (omega (arith, (accepted b z).long)))

-- run on the block, the bytes leave that of power-up for the default font
pub recovered-block : (b out t : List ℕ) (r : ℕ) (left b' t' : List ℕ) → HostRecovers b out r left → r < 256
    → HostRun b t (take r left) 0 b' t' → b' ≡ block_of (power_up (condition_in b).link)
recovered-block b out t r left b' t' p l h =
    let d = done h in
    let e = not-refused (condition_in b) (tally_at t) (take r left) d.takes in
    d.block ∙ ap (λ (k : Ran). block_of k.condition) e ∙ ap block_of (p.gives.delivers l)

-- any two allowed answers, and what they leave in the buffer, are the same
pub one-host-recovery : (b out : List ℕ) (r s : ℕ) (x y : List ℕ) → HostRecovers b out r x → HostRecovers b out s y
    → (r ≡ s) × (x ≡ y)
one-host-recovery b out r s x y p q = one-host-plan _ _ _ _ r s x y p.gives q.gives

-- what recovery promises of the condition at hand, as a promise of the condition in the block
pub recovers-in : (b : List ℕ) (c : Condition) → c ≡ condition_in b → (out left : List ℕ) (r : Planned) → Recovers c out left r
    → Recovers (condition_in b) out left r
recovers-in b c e out left r = subst (λ (c : Condition). Recovers c out left r) e
