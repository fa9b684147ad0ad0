use Prim.Native.Nat.{◌*◌, ◌≤◌}
use lib.ListN.{length}
use Rattle.users.specs.Users.{limit_of}
use Rattle.index.proofs.Building.{Built}
use Rattle.index.proofs.build.Given as goal

abbrev pub invariant-loop-k : goal.invariant-loop-k
invariant-loop-k l =
    (l.k ≤ limit_of l.list.bytes.now l.list.count) × (limit_of l.list.bytes.now l.list.count ≤ l.list.count)
    × (6 * limit_of l.list.bytes.now l.list.count ≤ length l.list.bytes.now)
    × Built l.list.bytes.now (limit_of l.list.bytes.now l.list.count) l.k (length l.initial.entries) l.entries
