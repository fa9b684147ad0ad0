use mathlib.Core.Logic.{⊎_elim}
use borrow.Author.Tests.{eq-eqb, ne_eqb}
use Rattle.planner.specs.Fonts.{switch}
use Rattle.planner.proofs.counts.switch_length.Goals as goal

pub returns-then-from-to : goal.returns-then-from-to
unfolding switch
returns-then-from-to c = rw (eq-eqb _ _ c.if-from-to.true)

pub returns-then-not-euro : goal.returns-then-not-euro
unfolding switch
returns-then-not-euro c =
    let a = c.args in
    rw (ne_eqb _ _ c.if-from-to.false)
    (⊎_elim (λ e. rw (eq-eqb a.to 1 e)) (λ n. rw (ne_eqb a.to 1 n.0, n.1)) c.if-not-euro.either)

pub returns-else-not-euro : goal.returns-else-not-euro
unfolding switch
returns-else-not-euro c =
    let n = c.if-not-euro.false in
    rw (ne_eqb _ _ c.if-from-to.false, ne_eqb _ _ n.0, n.1)
