use Rattle.lines.specs.Lines.{Adds, each}
use Rattle.show_lounge.specs.Report.{user_line}
use Rattle.show_lounge.proofs.add_users.Given as goal

abbrev pub invariant-loop-k : goal.invariant-loop-k
invariant-loop-k l = Adds l.initial.out (each (user_line l.users) l.k) l.out
