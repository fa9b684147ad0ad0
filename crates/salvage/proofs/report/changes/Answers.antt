use Rattle.lines.specs.Lines.{each}
use Rattle.lines.proofs.Laws.{none-adds, each-adds}
use Rattle.salvage.proofs.report.changes.Goals as goal

pub loop-i-init : goal.loop-i-init
unfolding each
loop-i-init c = none-adds _

pub loop-i-preserved : goal.loop-i-preserved
loop-i-preserved c = each-adds _ c.loop-i.i c.loop-i.invariant c.change.ensures
