use Prim.Native.Nat.{◌≤◌}
use mathlib.Core.Path.{◌∙◌}
use native.Mathlib.Omega.{arith}
use native.Mathlib.Nat.{le_trans}
use lib.ListN.{length}
use borrow.Author.Rules.{rules}
use borrow.Author.Tests.{ne_eqb}
use Rattle.refusals.specs.Refusals.{number_of}
use Rattle.refusals.proofs.Laws.{numbered}
use Rattle.lines.specs.Lines.{refused_line}
use Rattle.lines.proofs.Laws.{whole-added, refused-length}
use Rattle.lounge.proofs.Kept.{Sized, fit, few-users}
use Rattle.show_lounge.specs.Report.{shown_of}
use Rattle.show_lounge.proofs.Laws.{ran-formed, shown-all, report-length}
use Rattle.show_lounge.proofs.show.Goals as goal

pub add_report-requires : goal.add_report-requires
add_report-requires c = ran-formed _ _ _ c.in-Ok.ensures.answer

pub returns-in-Ok : goal.returns-in-Ok
unfolding shown_of
returns-in-Ok c =
    let k = c.in-Ok.c in
    let a = c.in-Ok.ensures in
    let s : Sized k =
    record { codes-40 = search rules; marks-40 = search rules; users-48 = search rules; held-4 = search rules } in
    let l = report-length k s (few-users k (fit k s (ran-formed _ _ _ a.answer))) in
    let t = c.new-text.ensures.empty in
    let p = rw (t.0, t.1) at c.add_report.ensures.added in
    let w = whole-added p (le_trans l c.requires) in
    (shown-all _ _ _ _ a w.0, w.1)

pub returns-in-Err : goal.returns-in-Err
unfolding shown_of
returns-in-Err c =
    let n = number_of c.in-Err.refusal in
    let t = c.new-text.ensures.empty in
    let p = rw (t.0, t.1, c.from.ensures) at c.refused.ensures.added in
    let l : length (refused_line n) ≤ 512 = omega (arith, refused-length n) in
    let w = whole-added p (le_trans l c.requires) in
    (shown-all _ _ _ _ c.in-Err.ensures (w.0 ∙ rw (ne_eqb n 0 (numbered c.in-Err.refusal))), w.1)
