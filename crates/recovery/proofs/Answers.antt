-- What a refusal number says: 11 that nothing helps, 0 that the eight bytes do.
use mathlib.Core.Path.{◌≡◌, refl, sym, ap, ◌∙◌}
use mathlib.Core.Logic.{◌↔◌}
use mathlib.Core.Bool.{Bool, true, false, cond, not}
use mathlib.Core.List.{List}
use Prim.Native.Nat.{ℕ, ◌≤◌}
use native.Mathlib.Omega.{arith}
use lib.Dec.{ltb}
use lib.ListN.{length, take}
use lib.Seq.{take_all, take-append_seam}
use Rattle.std.specs.Prelude.{Result, Ok, Err}
use borrow.Author.Tests.{ltb-false, not-false}
use Rattle.laws.proofs.Tests.{by_cases, passed}
use Rattle.row.specs.Row.{laid}
use Rattle.condition.specs.declared.Condition.{Condition}
use Rattle.row.specs.Row.{all_up_to}
use Rattle.condition.specs.Condition.{well_formed}
use Rattle.condition.proofs.Good.{Sized}
use Rattle.refusals.specs.declared.Refusal.{Refusal}
use Rattle.refusals.specs.Refusals.{number_of}
use Rattle.planner.specs.Answer.{Planned, planned, Promise}
use Rattle.planner.specs.Plan.{at_start}
use Rattle.planner.proofs.Refusals.{refused, taken-on, told, one-plan, same-plan}
use Rattle.recovery.specs.Recovery.{get_back, PowersUp, NoWayBack, lost, recover_refusal, Recovers}
use Rattle.recovery.proofs.Lost.{no_way_back}
use Rattle.recovery.proofs.Back.{back}

-- a condition that is not well formed is refused by 3, whatever else is wrong
pub unformed : (c : Condition) (room : ℕ) → well_formed c ≡ false → recover_refusal c room ≡ 3
unfolding recover_refusal
unformed c room w = rw w

-- it is accepted where it is well formed and not lost, and there is room
pub record Accepted (c : Condition) (room : ℕ) : Type 0 where
  pub formed : well_formed c ≡ true
  pub found : lost c ≡ false
  pub roomy : 8 ≤ room

pub accepted : (c : Condition) (room : ℕ) → recover_refusal c room ≡ 0 → Accepted c room
unfolding recover_refusal
accepted c room e =
    let p3 = passed (not (well_formed c)) _ _ e in
    let p11 = passed (lost c) _ _ p3.1 in
    let p10 = passed (ltb room 8) _ _ p11.1 in
    record { formed = not-false _ p3.0; found = p11.0; roomy = ltb-false room 8 p10.0 }

-- the eight bytes are bytes
eight : all_up_to 255 get_back ≡ true
unfolding all_up_to get_back
eight = refl

-- 11 says that the condition is well formed and lost
told-lost : (c : Condition) (room : ℕ) → recover_refusal c room ≡ 11 → (well_formed c ≡ true) × (lost c ≡ true)
unfolding recover_refusal
told-lost c room e = go (well_formed c) (lost c) (ltb room 8) e
  where
    go : (w l s : Bool) → ◌≡◌ {A = ℕ} (cond (not w) 3 (cond l 11 (cond s 10 0))) 11 → (w ≡ true) × (l ≡ true)
    go true true s f = (refl, refl)
    go true false true f = absurd (omega arith)
    go true false false f = absurd (omega arith)
    go false l s f = absurd (omega arith)

-- it is given exactly when nothing helps
pub exactly : (c : Condition) (room : ℕ) → Sized c → (recover_refusal c room ≡ 11) ↔ ((well_formed c ≡ true) × NoWayBack c)
unfolding recover_refusal
exactly c room s = (
  λ e. let p = told-lost c room e in (p.0, no_way_back c s p.0 p.1),
  λ p. by_cases (lost c) (λ l. rw (p.0, l)) (λ f. absurd (p.1 get_back eight (back c s p.0 f))),
)

-- the same of an answer by that number
with-exactly : (c : Condition) (before after : List ℕ) (r : Planned) → Sized c
    → Promise (recover_refusal c (length before)) get_back (PowersUp c) before after r → Recovers c before after r
with-exactly c before after r s p = record { gives = p; exactly = rw p.answer (exactly c (length before) s) }

module _ (c : Condition) (out : List ℕ) (s : Sized c) where
  -- refused, nothing changes
  pub refuses : (r : Refusal) → number_of r ≡ recover_refusal c (length out) → Recovers c out out (planned (Err r))
  refuses r e = with-exactly c out out (planned (Err r)) s (refused _ _ _ _ r e)

  -- accepted, the eight bytes are laid over the output, which has room for them
  pub puts : (after : List ℕ) → recover_refusal c (length out) ≡ 0 → after ≡ laid get_back out
      → Recovers c out after (planned (Ok 8))
  unfolding get_back laid
  puts after z p =
      let t = accepted c (length out) z in
      let q : after ≡ at_start get_back out = p ∙ rw (take_all (length out) get_back t.roomy) in
      with-exactly c out after (planned (Ok 8)) s (taken-on _ _ _ _ after 8 z (back c s t.formed t.found) (refl, q))

-- the bytes that are given for one condition serve from every other too that has a way back: so they can be sent to a module whose
-- condition is not known
pub from-any : (c : Condition) (before after : List ℕ) (r : Planned) → Recovers c before after r → r.refusal ≡ 0
    → (d : Condition) → Sized d → well_formed d ≡ true → (NoWayBack d → ⊥) → PowersUp d (take r.length after)
from-any c before after r p z d s w way =
    let n : recover_refusal c (length before) ≡ 0 = sym (ap (λ (q : Planned). q.refusal) p.gives.answer) ∙ z in
    let t = told _ _ _ _ after r n p.gives in
    rw (t.0, t.1, take-append_seam get_back _)
    (by_cases (lost d) (λ l. absurd (way (no_way_back d s w l))) (λ f. back d s w f))

-- any two allowed answers, and what they leave in the buffer, are the same
pub one-recovery : (c : Condition) (before a b : List ℕ) (r s : Planned) → Recovers c before a r → Recovers c before b s
    → (r ≡ s) × (a ≡ b)
one-recovery c before a b r s f g = one-plan _ _ _ _ a b r s f.gives g.gives

pub same-recovery : (c : Condition) (before a b : List ℕ) (r s : Result ℕ Refusal) → Recovers c before a (planned r)
    → Recovers c before b (planned s) → (r ≡ s) × (a ≡ b)
same-recovery c before a b r s f g = same-plan _ _ _ _ a b r s f.gives g.gives
