use mathlib.Core.Path.{refl}
use Rattle.condition.specs.Condition.{numbers_good}
use Rattle.condition.proofs.numbers_good.Goals as goal

pub returns : goal.returns
unfolding numbers_good
returns c = refl
