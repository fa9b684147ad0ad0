use Rattle.lines.specs.Lines.{Adds, each}
use Rattle.tell.specs.Report.{dot_text}
use Rattle.tell.proofs.dots.Given as goal

abbrev pub invariant-loop-i : goal.invariant-loop-i
invariant-loop-i l = Adds l.initial.text (each (dot_text l.c l.code) l.i) l.text
