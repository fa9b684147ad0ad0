use Prim.Native.Nat.{◌≤◌}
use lib.ListN.{length}
use Rattle.layout.specs.Layout.{condition_in}
use Rattle.inplace.specs.InPlace.{LentIndex}
use Rattle.inplace.proofs.Running.{Going}
use Rattle.inplace.proofs.run.run_in.Given as goal

abbrev pub invariant-loop-b : goal.invariant-loop-b
invariant-loop-b l =
    Going (condition_in l.initial.s) l.bytes l.s l.spent.busy l.spent.flickerless l.spent.worst l.b-index
    × (length l.bytes ≤ 32768) × LentIndex l.index (condition_in l.s)
