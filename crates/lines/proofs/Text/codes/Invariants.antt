use Rattle.lines.specs.Lines.{Adds, each, code_text}
use Rattle.lines.proofs.Text.codes.Given as goal

abbrev pub invariant-loop-i : goal.invariant-loop-i
invariant-loop-i l = Adds l.initial.self (each (code_text l.codes) l.i) l.self
