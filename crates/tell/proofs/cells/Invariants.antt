use Rattle.lines.specs.Lines.{Adds, each}
use Rattle.tell.specs.Report.{cell_line}
use Rattle.tell.proofs.cells.Given as goal

abbrev pub invariant-loop-p : goal.invariant-loop-p
invariant-loop-p l = Adds l.initial.text (each (cell_line l.c) l.p) l.text
