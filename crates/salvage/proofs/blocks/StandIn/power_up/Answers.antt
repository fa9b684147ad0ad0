use mathlib.Core.Path.{refl, ◌∙◌}
use Rattle.condition.specs.Condition.{power_up}
use Rattle.block.proofs.Sealing.{put_whole}
use borrow.Author.Rules.{rules}
use Rattle.salvage.proofs.blocks.StandIn.power_up.Goals as goal

pub returns : goal.returns
returns c = (c.put.ensures ∙ rw c.powered.ensures (put_whole (power_up 0) _ (search rules)), refl)
