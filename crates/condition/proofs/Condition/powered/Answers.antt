use mathlib.Core.Path.{refl}
use Rattle.condition.specs.Condition.{power_up}
use Rattle.condition.proofs.Condition.powered.Goals as goal

pub returns : goal.returns
unfolding power_up
returns c = refl
