use Prim.Native.Nat.{◌+◌, ◌-◌, ◌*◌, ◌≤◌}
use mathlib.Core.Path.{◌≡◌}
use lib.ListN.{length}
use Rattle.users.specs.Users.{removed}
use Rattle.users.proofs.remove.Given as goal

abbrev pub invariant-loop-i : goal.invariant-loop-i
invariant-loop-i l =
    (l.i ≤ l.youngest) × (removed l.i l.youngest l.bytes ≡ removed l.k l.youngest l.initial.bytes)
    × (length l.bytes ≡ length l.initial.bytes)
    × (l.youngest * 6 + 6 ≤ length l.initial.bytes)
