use mathlib.Core.Path.{refl}
use Rattle.lounge.specs.Condition.{numbers_formed}
use Rattle.lounge.proofs.Lounge.numbers_formed.Goals as goal

pub returns : goal.returns
unfolding numbers_formed
returns c = refl
