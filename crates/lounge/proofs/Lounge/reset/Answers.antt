use mathlib.Core.Path.{refl}
use Rattle.lounge.specs.Condition.{reset_of}
use Rattle.lounge.proofs.Lounge.reset.Goals as goal

pub returns : goal.returns
unfolding reset_of
returns c = refl
