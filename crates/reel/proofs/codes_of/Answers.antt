use Prim.Native.Nat.{◌+◌, ◌-◌, ◌*◌}
use mathlib.Core.Path.{◌≡◌}
use native.Mathlib.Omega.{arith}
use Rattle.reel.proofs.codes_of.Goals as goal

pub returns : goal.returns
returns c = let k = c.args.k in let e : k * 40 + 40 - k * 40 ≡ 40 = omega arith in rw e
