use mathlib.Core.Path.{refl}
use Rattle.condition.specs.Condition.{scroll_good}
use Rattle.condition.proofs.scroll_good.Goals as goal

pub returns : goal.returns
unfolding scroll_good
returns c = refl
