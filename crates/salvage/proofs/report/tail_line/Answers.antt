use Rattle.lines.proofs.Laws.{none-adds, both-adds}
use Rattle.salvage.specs.Salvage.{tail_line}
use Rattle.salvage.proofs.Telling.{tail-line}
use Rattle.salvage.proofs.report.tail_line.Goals as goal

pub returns-then-tail-eq0 : goal.returns-then-tail-eq0
unfolding tail_line
returns-then-tail-eq0 c = rw c.if-tail-eq0.true (none-adds _)

pub returns : goal.returns
returns c = rw (tail-line _ c.if-tail-eq0.false) (both-adds c.number.ensures c.word.ensures)
