use mathlib.Core.Logic.{⊎_elim}
use native.Mathlib.Omega.{arith}
use Rattle.lounge.specs.Condition.{is_area}
use Rattle.lounge.proofs.is_area.Goals as goal

pub returns-in-23 : goal.returns-in-23
unfolding is_area
returns-in-23 c = ⊎_elim (λ e. rw e) (λ d. ⊎_elim (λ e. rw e) (λ e. rw e) d) c.in-23.is

pub returns-in_default : goal.returns-in_default
unfolding is_area
returns-in_default c = grind arith
