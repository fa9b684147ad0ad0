use native.Mathlib.Omega.{arith}
use Rattle.users.specs.Users.{room_of, limit_of}
use Rattle.users.proofs.UserList.limit.Goals as goal

pub returns : goal.returns
unfolding limit_of room_of
returns c = (omega arith, omega arith)
