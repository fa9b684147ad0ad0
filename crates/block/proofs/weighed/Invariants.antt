use mathlib.Core.Path.{◌≡◌}
use Prim.Native.Nat.{◌+◌, ◌*◌, ◌≤◌}
use lib.ListN.{drop}
use Rattle.block.specs.Block.{weigh}
use Rattle.block.proofs.weighed.Given as goal

abbrev pub invariant-loop-i : goal.invariant-loop-i
invariant-loop-i l = (l.sum + weigh (l.i + 1) (drop l.i l.s) ≡ weigh 1 l.s) × (l.sum ≤ 130050 * l.i)
