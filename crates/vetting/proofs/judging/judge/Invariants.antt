use Prim.Native.Nat.{◌-◌}
use lib.ListN.{length}
use Rattle.vetting.proofs.Through.{Judging}
use Rattle.vetting.proofs.judging.judge.Given as goal

abbrev pub invariant-loop-i : goal.invariant-loop-i
invariant-loop-i l = Judging l.c l.string l.i l.p l.low l.codes l.fonts

abbrev pub decreases-loop-i : goal.decreases-loop-i
decreases-loop-i l = length l.string - l.i
