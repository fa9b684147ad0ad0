use native.Mathlib.Omega.{arith}
use native.Mathlib.Nat.{le_trans}
use Rattle.refusals.proofs.Laws.{numbered}
use Rattle.lines.proofs.Laws.{both-adds, printed, printed-alone}
use Rattle.tell.specs.Report.{report_of}
use Rattle.tell.proofs.Laws.{told-length}
use Rattle.tell.proofs.told.Goals as goal

pub returns-in-Ok : goal.returns-in-Ok
unfolding report_of
returns-in-Ok c = λ condition t.
    let body = both-adds c.cells.ensures c.users.ensures in
    rw c.in-Ok.is
    (printed _ (rw c.requires.0 at body.added) (c.end.ensures condition t).added
    (le_trans (told-length _) c.requires.1))

pub returns-in-Err : goal.returns-in-Err
returns-in-Err c = λ condition t.
    let alone = rw c.in-Err.is at (c.end-in-Err.ensures condition t) in
    rw c.in-Err.is (printed-alone _ _ _ (numbered c.in-Err.field-0) alone.added (omega (arith, c.requires.1)))
