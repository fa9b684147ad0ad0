use Rattle.reel.proofs.Putting.{Putting}
use Rattle.reel.proofs.put_plans.Given as goal

abbrev pub invariant-loop-k : goal.invariant-loop-k
invariant-loop-k l = Putting l.c l.codes l.cursors l.initial.out l.out l.lengths l.left l.at l.k
