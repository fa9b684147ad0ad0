use native.Mathlib.Omega.{arith}
use Rattle.layout.proofs.PackedBack.{kind-above-5}
use Rattle.layout.proofs.pending_in.Goals as goal

pub returns-in_default : goal.returns-in_default
returns-in_default c = kind-above-5 c.args.kind _ _ (omega (arith, c.in_default))
