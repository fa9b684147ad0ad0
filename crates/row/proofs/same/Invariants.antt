use mathlib.Core.Path.{◌≡◌}
use mathlib.Core.Bool.{◌&&◌}
use lib.ListN.{length, drop}
use Rattle.row.specs.Row.{same_bytes}
use Rattle.row.proofs.same.Given as goal

abbrev pub invariant-loop-i : goal.invariant-loop-i
invariant-loop-i l =
    ((l.alike && same_bytes (drop l.i l.a) (drop l.i l.b)) ≡ same_bytes l.a l.b) × (length l.a ≡ length l.b)
