use Rattle.planner.proofs.Counting.{Planning}
use Rattle.planner.proofs.task.Task.put_by.Given as goal

abbrev pub invariant-loop-j : goal.invariant-loop-j
invariant-loop-j l =
    Planning l.euro l.self.codes.now l.fonts l.codes l.standing l.self.cursor l.initial.p l.initial.selected l.initial.k
    l.initial.out l.out l.p l.selected l.k l.j
