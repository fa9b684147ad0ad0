use mathlib.Core.Path.{◌≡◌}
use borrow.Author.Tests.{eq-eqb, ne_eqb}
use Rattle.lounge.specs.Pairs.{write_of, after_write}
use Rattle.lounge.proofs.Lounge.write.Goals as goal

pub returns-then-self : goal.returns-then-self
unfolding write_of
returns-then-self c = rw (c.push.ensures, c.if-self.true)

pub returns-then-self-eq-LAST_PLACE : goal.returns-then-self-eq-LAST_PLACE
unfolding write_of after_write
returns-then-self-eq-LAST_PLACE c =
    let e : c.args.self.now.cursor ≡ 39 = rw c.put.ensures at c.if-self-eq-LAST_PLACE.true in
    rw (c.if-self.false, eq-eqb _ _ e, c.put.ensures)

pub returns-else-self-eq-LAST_PLACE : goal.returns-else-self-eq-LAST_PLACE
unfolding write_of after_write
returns-else-self-eq-LAST_PLACE c =
    let e : c.args.self.now.cursor ≡ 39 → ⊥ = rw c.put.ensures at c.if-self-eq-LAST_PLACE.false in
    rw (c.if-self.false, ne_eqb _ _ e, c.put.ensures)
