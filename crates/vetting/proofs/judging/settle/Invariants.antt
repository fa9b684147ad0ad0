use lib.ListN.{get_or}
use Rattle.planner.specs.Fonts.{wrong_cell}
use Rattle.vetting.proofs.Settling.{Looked}
use Rattle.vetting.proofs.judging.settle.Given as goal

abbrev pub invariant-loop-j : goal.invariant-loop-j
invariant-loop-j l =
    Looked (λ j. wrong_cell (get_or l.codes j 0) (get_or l.fonts j 0) (get_or l.wanted j 0) l.font) l.j
