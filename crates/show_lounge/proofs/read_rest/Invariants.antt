use mathlib.Core.Path.{◌≡◌}
use lib.ListN.{length}
use Rattle.show_lounge.specs.Rest.{known}
use Rattle.show_lounge.proofs.Laws.{Reading}
use Rattle.show_lounge.proofs.read_rest.Given as goal

abbrev pub invariant-loop-size : goal.invariant-loop-size
invariant-loop-size g l = Reading l.n l.size (known l.rest) × (length l.piece ≡ 65536)

abbrev pub decreases-loop-size : goal.decreases-loop-size
decreases-loop-size g l = l.left
