use native.Mathlib.Omega.{arith}
use Rattle.moves.proofs.Four.{onward-length}
use Rattle.moves.proofs.lengths.onward.Goals as goal

pub returns-then-from-to : goal.returns-then-from-to
returns-then-from-to c = omega (arith, onward-length c.args.from c.args.to)

pub returns-else-from-to : goal.returns-else-from-to
returns-else-from-to c = omega (arith, onward-length c.args.from c.args.to)
