use lib.ListN.{get_or}
use Rattle.lines.specs.Lines.{Adds, each, last_digit}
use Rattle.show_lounge.proofs.add_marks.Given as goal

abbrev pub invariant-loop-mark : goal.invariant-loop-mark
invariant-loop-mark l = Adds l.initial.out (each (λ i. last_digit (get_or l.marks i 0)) l.mark-index) l.out
