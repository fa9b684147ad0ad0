use Rattle.std.proofs.Common.{◌*◌, ◌≤◌, ◌-◌, ◌≡◌, length, drop}
use Rattle.users.specs.Users.{places_formed, users_formed}
use Rattle.users.proofs.UserList.are_formed.Given as goal

abbrev pub invariant-loop-k : goal.invariant-loop-k
invariant-loop-k l =
    (users_formed l.bound l.self.bytes.now l.self.count ≡ places_formed l.bound (l.n - l.k) (drop (l.k * 6) l.self.bytes.now))
    × (6 * l.n ≤ length l.self.bytes.now)
