use mathlib.Core.Path.{◌≡◌}
use lib.ListN.{drop}
use Rattle.reel.specs.Reel.{pictures_of, first_refused}
use Rattle.reel.proofs.Turns.{first_from}
use Rattle.reel.proofs.check_pictures.Given as goal

abbrev pub invariant-loop-k : goal.invariant-loop-k
invariant-loop-k l =
    first_refused 0 l.c (pictures_of l.codes l.cursors) ≡ first_from l.c l.k (drop l.k (pictures_of l.codes l.cursors))
