use mathlib.Core.Path.{◌≡◌}
use mathlib.Core.Bool.{◌&&◌}
use Prim.Native.Nat.{◌*◌}
use lib.Dec.{leb}
use lib.ListN.{drop}
use Rattle.lounge.specs.Run.{kinds_formed}
use Rattle.lounge.proofs.kinds_formed.Given as goal

abbrev pub invariant-loop-k : goal.invariant-loop-k
invariant-loop-k l = (leb l.most 1 && kinds_formed (drop (2 * l.k) l.pairs)) ≡ kinds_formed l.pairs
