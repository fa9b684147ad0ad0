-- A block is looked at once: what it tells, opened, and that the order of refusals is the same.
use mathlib.Core.Path.{◌≡◌, refl, sym, ap, ◌∙◌}
use mathlib.Core.Bool.{Bool, true, false, cond, not}
use mathlib.Core.List.{List}
use Rattle.std.specs.Prelude.{Ok, Err}
use Rattle.refusals.specs.declared.Refusal.{Refusal}
use Rattle.refusals.specs.Refusals.{number_of}
use Rattle.refusals.proofs.Laws.{numbered}
use Prim.Native.Nat.{ℕ}
use lib.Dec.{eqb}
use borrow.Author.Tests.{eq-eqb, ne_eqb}
use Rattle.laws.proofs.Tests.{number_by}
use Rattle.condition.specs.declared.Condition.{Condition}
use Rattle.condition.specs.Condition.{Outcome, outcome, well_formed}
use Rattle.layout.specs.Layout.{condition_in, unpacked_of}
use Rattle.block.specs.Reading.{read_refusal, damage_of}
use Rattle.block.proofs.Damaged.{read_by, whole-unpacked}
use Rattle.host.specs.Host.{opened_of, host_refusal_by}

pub opened-damaged : (b : List ℕ) (refusal : Refusal) → number_of refusal ≡ damage_of b → outcome (Err refusal) ≡ opened_of b
unfolding opened_of
opened-damaged b refusal d = rw (← d, ne_eqb (number_of refusal) 0 (numbered refusal))

pub opened-whole : (b : List ℕ) (c : Condition) → 0 ≡ damage_of b → c ≡ unpacked_of b → outcome (Ok c) ≡ opened_of b
unfolding opened_of
opened-whole b c z e = rw (← z, e ∙ whole-unpacked b (sym z))

-- opened, it is refused for its damage, or its condition is at hand
opened-number : (b : List ℕ) (g : Outcome) → g ≡ opened_of b → g.refusal ≡ damage_of b
unfolding opened_of
opened-number b g e =
    ap (λ (o : Outcome). o.refusal) e
    ∙ number_by (λ (o : Outcome). o.refusal) (damage_of b) refl refl

module _ (b : List ℕ) (g : Outcome) (o : g ≡ opened_of b) where
  -- a damaged block is refused so, whatever the call would answer
  pub damaged-by : (n : ℕ) → (g.refusal ≡ 0 → ⊥) → host_refusal_by true b n ≡ g.refusal
  unfolding host_refusal_by
  damaged-by n h =
      let t = ne_eqb g.refusal 0 h in
      let e : read_refusal b ≡ g.refusal = read_by b ∙ rw (← opened-number b g o, t) in
      rw (e, t)

  module _ (z : g.refusal ≡ 0) where
    pub whole : damage_of b ≡ 0
    whole = sym (opened-number b g o) ∙ z

    pub in_block : g.condition ≡ condition_in b
    unfolding opened_of
    in_block = ap (λ (o : Outcome). o.condition) o ∙ rw (eq-eqb (damage_of b) 0 whole)

    -- one that is not is refused as the call refuses, which gives 3 where the condition is not well formed: the order is the same
    pub left-to : (n : ℕ) → (well_formed (condition_in b) ≡ false → n ≡ 3) → host_refusal_by true b n ≡ n
    unfolding host_refusal_by
    left-to n u = rw (read_by b, whole) (go (well_formed (condition_in b)) refl)
      where
        go : (w : Bool) → well_formed (condition_in b) ≡ w → cond (not (eqb (cond w 0 3) 0)) (cond w 0 3) n ≡ n
        go true e = refl
        go false e = sym (u e)
