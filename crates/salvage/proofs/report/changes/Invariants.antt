use lib.ListN.{get_or}
use Rattle.lines.specs.Lines.{Adds, each}
use Rattle.salvage.specs.Steps.{line_by}
use Rattle.salvage.proofs.report.changes.Given as goal

abbrev pub invariant-loop-i : goal.invariant-loop-i
invariant-loop-i l = Adds l.initial.text (each (λ k. line_by k (get_or l.sources k 0)) l.i) l.text
