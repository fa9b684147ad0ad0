use Prim.Native.Nat.{◌≤◌}
use mathlib.Core.Path.{◌≡◌}
use native.Mathlib.Omega.{arith}
use lib.ListN.{length, take, drop, length-drop}
use lib.Seq.{take_all}
use Rattle.lines.proofs.Laws.{both-adds}
use Rattle.show_lounge.specs.Report.{mark_lines}
use Rattle.show_lounge.proofs.add_mark_lines.Goals as goal

pub returns : goal.returns
unfolding mark_lines
returns c =
    let marks = c.args.marks.now in
    let l : length (drop 20 marks) ≤ 20 = omega (arith, length-drop 20 marks, c.told-marks) in
    let e : take 20 (drop 20 marks) ≡ drop 20 marks = take_all 20 (drop 20 marks) l in
    both-adds c.add_marks.ensures (rw e at c.add_marks-2.ensures)
