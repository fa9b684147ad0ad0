use Rattle.condition.specs.Condition.{numbers_good, scroll_good}
use Rattle.layout.specs.Layout.{condition_in}
use Rattle.layout.proofs.numbers_in.Goals as goal

pub returns : goal.returns
unfolding numbers_good scroll_good condition_in
returns c = rw c.from.ensures
