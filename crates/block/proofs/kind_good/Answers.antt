use Rattle.block.specs.Tidy.{kind_good}
use borrow.Author.Tests.{eq-eqb, ne_eqb}
use Rattle.block.proofs.kind_good.Goals as goal

pub returns-then-kind-eq6 : goal.returns-then-kind-eq6
unfolding kind_good
returns-then-kind-eq6 c = rw (eq-eqb _ _ c.if-kind-eq6.true)

pub returns : goal.returns
unfolding kind_good
returns c = rw (ne_eqb _ _ c.if-kind-eq6.false)
