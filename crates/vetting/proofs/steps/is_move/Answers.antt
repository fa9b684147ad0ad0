use mathlib.Core.Bool.{or-false}
use Rattle.vetting.proofs.steps.is_move.Goals as goal

pub returns : goal.returns
returns c = rw or-false
