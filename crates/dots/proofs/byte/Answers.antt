use native.Mathlib.Omega.{arith}
use Rattle.dots.proofs.Laws.{byte_past}
use Rattle.dots.proofs.byte.Goals as goal

pub returns-in_default : goal.returns-in_default
returns-in_default c = byte_past c.args.d c.args.i (omega (arith, c.in_default))
