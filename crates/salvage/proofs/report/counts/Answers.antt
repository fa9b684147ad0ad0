use Rattle.lines.proofs.Laws.{both-adds}
use Rattle.salvage.specs.Salvage.{counts_line}
use Rattle.salvage.proofs.report.counts.Goals as goal

pub returns : goal.returns
unfolding counts_line
returns c = both-adds c.number.ensures (both-adds c.number-2.ensures c.word.ensures)
