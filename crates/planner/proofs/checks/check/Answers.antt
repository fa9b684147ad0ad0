use mathlib.Core.Path.{◌≡◌, sym, ap, ◌∙◌}
use mathlib.Core.Bool.{true, false}
use mathlib.Core.Logic.{⊎_elim}
use borrow.Author.Tests.{eq-eqb, ne_eqb}
use Rattle.planner.specs.Answer.{some_lacks, refusal_by}
use Rattle.planner.proofs.Wanted.{at-list}
use Rattle.planner.proofs.checks.check.Goals as goal

pub returns-then-not-long : goal.returns-then-not-long
unfolding refusal_by
returns-then-not-long c = rw c.if-not-long.true

pub returns-then-not-is_well_formed : goal.returns-then-not-is_well_formed
unfolding refusal_by
returns-then-not-is_well_formed c =
    rw c.if-not-long.false
    (⊎_elim (λ (e : c.is_well_formed.result ≡ false). rw (sym c.is_well_formed.ensures ∙ e))
    (λ (h : (c.is_well_formed.result ≡ true) × (c.args.ranged ≡ false)). rw (sym c.is_well_formed.ensures ∙ h.0, h.1))
    c.then-not-is_well_formed.either)

pub returns-then-not-is_idle : goal.returns-then-not-is_idle
unfolding refusal_by
returns-then-not-is_idle c = rw (
  c.if-not-long.false,
  sym c.is_well_formed.ensures ∙ c.if-not-is_well_formed.false,
  c.if-not-ranged.false,
  sym c.is_idle.ensures ∙ c.if-not-is_idle.true,
)

pub returns-then-c-ne1 : goal.returns-then-c-ne1
unfolding refusal_by
returns-then-c-ne1 c = rw (
  c.if-not-long.false,
  sym c.is_well_formed.ensures ∙ c.if-not-is_well_formed.false,
  c.if-not-ranged.false,
  sym c.is_idle.ensures ∙ c.if-not-is_idle.false,
  ne_eqb _ _ c.if-c-ne1.true,
)

pub returns-then-blocked : goal.returns-then-blocked
unfolding refusal_by
returns-then-blocked c = rw (
  c.if-not-long.false,
  sym c.is_well_formed.ensures ∙ c.if-not-is_well_formed.false,
  c.if-not-ranged.false,
  sym c.is_idle.ensures ∙ c.if-not-is_idle.false,
  eq-eqb _ _ c.if-c-ne1.false,
  c.if-blocked.true,
)

pub returns-then-some_lacks : goal.returns-then-some_lacks
unfolding refusal_by
returns-then-some_lacks c = rw (
  c.if-not-long.false,
  sym c.is_well_formed.ensures ∙ c.if-not-is_well_formed.false,
  c.if-not-ranged.false,
  sym c.is_idle.ensures ∙ c.if-not-is_idle.false,
  eq-eqb _ _ c.if-c-ne1.false,
  c.if-blocked.false,
  sym (c.some_lacks.ensures ∙ ap (λ u. some_lacks u c.args.wanted.now) (at-list c.args.c.now.users _ _ c.list.ensures))
      ∙ c.if-some_lacks.true,
)

pub returns-then-short : goal.returns-then-short
unfolding refusal_by
returns-then-short c = rw (
  c.if-not-long.false,
  sym c.is_well_formed.ensures ∙ c.if-not-is_well_formed.false,
  c.if-not-ranged.false,
  sym c.is_idle.ensures ∙ c.if-not-is_idle.false,
  eq-eqb _ _ c.if-c-ne1.false,
  c.if-blocked.false,
  sym (c.some_lacks.ensures ∙ ap (λ u. some_lacks u c.args.wanted.now) (at-list c.args.c.now.users _ _ c.list.ensures))
      ∙ c.if-some_lacks.false,
  c.if-short.true,
)

pub returns : goal.returns
unfolding refusal_by
returns c = rw (
  c.if-not-long.false,
  sym c.is_well_formed.ensures ∙ c.if-not-is_well_formed.false,
  c.if-not-ranged.false,
  sym c.is_idle.ensures ∙ c.if-not-is_idle.false,
  eq-eqb _ _ c.if-c-ne1.false,
  c.if-blocked.false,
  sym (c.some_lacks.ensures ∙ ap (λ u. some_lacks u c.args.wanted.now) (at-list c.args.c.now.users _ _ c.list.ensures))
      ∙ c.if-some_lacks.false,
  c.if-short.false,
)
