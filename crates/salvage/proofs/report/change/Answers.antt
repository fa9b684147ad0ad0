use Rattle.lines.proofs.Laws.{none-adds, both-adds}
use Rattle.salvage.proofs.Telling.{line-own, line-power-up, line-repeated}
use Rattle.salvage.proofs.report.change.Goals as goal

pub returns-then-source-number : goal.returns-then-source-number
returns-then-source-number c = rw (line-own _ _ c.if-source-number.true) (none-adds _)

pub returns-then-source-eq0 : goal.returns-then-source-eq0
returns-then-source-eq0 c =
    rw (line-power-up _ _ c.if-source-number.false c.if-source-eq0.true) (both-adds c.number.ensures c.word.ensures)

pub returns : goal.returns
returns c =
    rw (line-repeated _ _ c.if-source-number.false c.if-source-eq0.false)
    (both-adds c.number.ensures (both-adds c.number-2.ensures c.word-2.ensures))
