use Rattle.std.proofs.Common.{◌*◌, ◌≤◌, ◌-◌, ◌≡◌, length}
use Rattle.users.specs.Users.{place_of, found_in}
use Rattle.users.proofs.UserList.find.Given as goal

abbrev pub invariant-loop-k : goal.invariant-loop-k
invariant-loop-k l =
    (place_of l.self.bytes.now l.code (l.n - l.k) l.k ≡ found_in l.self.bytes.now l.self.count l.code)
    × (6 * l.n ≤ length l.self.bytes.now)
