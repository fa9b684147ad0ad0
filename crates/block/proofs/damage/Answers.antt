use mathlib.Core.Path.{sym, ◌∙◌}
use borrow.Author.Tests.{eq-eqb, ne_eqb}
use Rattle.block.specs.Reading.{damage_of}
use Rattle.block.proofs.Tidying.{tidy-same}
use Rattle.block.proofs.damage.Goals as goal

pub returns-in_default : goal.returns-in_default
unfolding damage_of
returns-in_default c = rw (ne_eqb _ _ c.in_default.ensures.cases)

pub returns-then-not-intact : goal.returns-then-not-intact
unfolding damage_of
returns-then-not-intact c =
    let array = c.in-Some.ensures.cases in
    rw (eq-eqb _ _ array.long, sym array.same, sym c.is_intact-intact.ensures ∙ c.if-not-intact.true)

-- where it is intact, a block is tidy exactly when it is that of its condition
pub returns-then-not-tidy : goal.returns-then-not-tidy
unfolding damage_of
returns-then-not-tidy c =
    let array = c.in-Some.ensures.cases in
    let whole = sym c.is_intact-intact.ensures ∙ c.if-not-intact.false in
    let own = sym (tidy-same _ (rw array.same array.long) whole) ∙ sym c.is_tidy-tidy.ensures ∙ c.if-not-tidy.true in
    rw (eq-eqb _ _ array.long, sym array.same, whole, own)

pub returns : goal.returns
unfolding damage_of
returns c =
    let array = c.in-Some.ensures.cases in
    let whole = sym c.is_intact-intact.ensures ∙ c.if-not-intact.false in
    let own = sym (tidy-same _ (rw array.same array.long) whole) ∙ sym c.is_tidy-tidy.ensures ∙ c.if-not-tidy.false in
    rw (eq-eqb _ _ array.long, sym array.same, whole, own)
