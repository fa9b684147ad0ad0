use Rattle.lines.specs.Lines.{Adds, each}
use Rattle.tell.specs.Report.{user_at}
use Rattle.tell.proofs.users.Given as goal

abbrev pub invariant-loop-i : goal.invariant-loop-i
invariant-loop-i l = Adds l.initial.text (each (user_at l.c) l.i) l.text
