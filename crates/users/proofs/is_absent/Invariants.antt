use Rattle.std.proofs.Common.{◌*◌, ◌≤◌, ◌-◌, ◌≡◌, length, drop}
use Rattle.users.specs.Users.{absent}
use Rattle.users.proofs.is_absent.Given as goal

abbrev pub invariant-loop-k : goal.invariant-loop-k
invariant-loop-k l = (absent l.x l.n l.s ≡ absent l.x (l.n - l.k) (drop (l.k * 6) l.s)) × (6 * l.n ≤ length l.s)
