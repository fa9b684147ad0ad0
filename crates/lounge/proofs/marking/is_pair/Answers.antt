use mathlib.Core.Path.{refl}
use Rattle.lounge.specs.Marks.{is_pair}
use Rattle.lounge.proofs.marking.is_pair.Goals as goal

pub returns : goal.returns
unfolding is_pair
returns c = refl
