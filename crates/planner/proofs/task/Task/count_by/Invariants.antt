use Rattle.planner.proofs.Counting.{Counting}
use Rattle.planner.proofs.task.Task.count_by.Given as goal

abbrev pub invariant-loop-j : goal.invariant-loop-j
invariant-loop-j l =
    Counting l.euro l.self.codes.now l.fonts l.codes l.standing l.self.cursor l.initial.p l.initial.selected l.initial.n
    l.p l.selected l.n l.j
