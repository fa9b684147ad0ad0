use mathlib.Core.Path.{refl}
use Rattle.dots.specs.Dots.{underline_of}
use Rattle.dots.proofs.underline.Goals as goal

pub returns : goal.returns
unfolding underline_of
returns c = refl
