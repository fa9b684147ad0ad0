use mathlib.Core.Path.{◌≡◌}
use native.Mathlib.Omega.{arith}
use lib.ListN.{length}
use Rattle.lines.specs.Lines.{each}
use Rattle.lines.proofs.Laws.{none-adds, both-adds, each-adds}
use Rattle.show_lounge.specs.Report.{mark_line}
use Rattle.show_lounge.proofs.add_marks.Goals as goal

pub loop-mark-init : goal.loop-mark-init
unfolding each
loop-mark-init c = none-adds _

pub loop-mark-preserved : goal.loop-mark-preserved
loop-mark-preserved c = let l = c.loop-mark in each-adds _ l.mark-index l.invariant c.digit.ensures

pub returns : goal.returns
unfolding mark_line
returns c =
    let l = c.loop-mark in
    let e : l.mark-index ≡ length c.args.marks.now = omega (arith, c.loop-mark-test.false, l.auto.mark-index-end) in
    both-adds (rw e at l.invariant) c.word.ensures
