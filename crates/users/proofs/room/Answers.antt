use native.Mathlib.Omega.{arith}
use Rattle.users.specs.Users.{room_of}
use Rattle.users.proofs.room.Goals as goal

pub returns : goal.returns
unfolding room_of
returns c = omega arith
