use mathlib.Core.Path.{refl}
use Rattle.lounge.specs.Condition.{scroll_formed}
use Rattle.lounge.proofs.Lounge.scroll_formed.Goals as goal

pub returns : goal.returns
unfolding scroll_formed
returns c = refl
