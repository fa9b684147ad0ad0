use mathlib.Core.Path.{refl}
use Rattle.lounge.specs.Marks.{has_mark}
use Rattle.lounge.proofs.has_mark.Goals as goal

pub returns : goal.returns
unfolding has_mark
returns c = refl
