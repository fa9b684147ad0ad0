-- How long a report may be.
use Prim.Native.Nat.{◌≤◌}
use mathlib.Core.Path.{◌≡◌}
use native.Mathlib.Omega.{arith}
use lib.ListN.{length, length-append}
use Rattle.interpreter.specs.Run.{Ran}
use Rattle.lines.proofs.Laws.{cells-length, decimal-length, print-length}
use Rattle.show.specs.Report.{place_line, report_of, shown_of}

pub shown-length : (r : Ran) → length r.condition.codes ≡ 40 → length (shown_of r) ≤ 313
unfolding report_of place_line
shown-length r h =
    let c = r.condition in
    let l : length (report_of c) ≤ 200 =
    simp length-append
    (omega (
      arith,
      cells-length c.codes h,
      decimal-length c.cursor,
      decimal-length c.mode,
      decimal-length c.font,
    )) in
    omega (arith, print-length (report_of c) r)
