use mathlib.Core.Path.{refl}
use Rattle.lounge_entry.specs.Entry.{sizes_right}
use Rattle.lounge_entry.proofs.sizes_right.Goals as goal

pub returns : goal.returns
unfolding sizes_right
returns c = refl
