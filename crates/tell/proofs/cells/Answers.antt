use mathlib.Core.Path.{◌≡◌}
use native.Mathlib.Omega.{arith}
use Rattle.lines.specs.Lines.{each}
use Rattle.lines.proofs.Laws.{none-adds, each-adds}
use Rattle.tell.specs.Report.{cell_line}
use Rattle.tell.proofs.cells.Goals as goal

pub loop-p-init : goal.loop-p-init
unfolding each
loop-p-init c = none-adds _

pub loop-p-preserved : goal.loop-p-preserved
unfolding cell_line
loop-p-preserved c = each-adds _ c.loop-p.p c.loop-p.invariant c.cell.ensures

pub returns : goal.returns
returns c =
    let e : c.loop-p.p ≡ 40 = omega arith in
    rw e at c.loop-p.invariant
