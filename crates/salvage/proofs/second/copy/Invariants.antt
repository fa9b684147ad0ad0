use Rattle.salvage.proofs.Turns.{Copying}
use Rattle.salvage.proofs.second.copy.Given as goal

abbrev pub invariant-loop-i : goal.invariant-loop-i
invariant-loop-i g l =
    Copying
    l.i
    l.sources
    l.stand_in.block
    l.stand_in.source
    (g.R.Read.remaining l.initial.input)
    (g.R.Read.remaining l.input)
    (g.W.Write.contents l.initial.output)
    (g.W.Write.contents l.output)
