use Rattle.lines.specs.Lines.{end_start, end_of, tally_line}
use Rattle.lines.proofs.Laws.{both-adds}
use borrow.Author.Tests.{eq-eqb, ne_eqb}
use Rattle.lines.proofs.Text.end_by.Goals as goal

pub returns-then-refusal-ne0 : goal.returns-then-refusal-ne0
unfolding end_start end_of
returns-then-refusal-ne0 c = λ condition.
    let other = ne_eqb _ _ c.if-refusal-ne0.true in
    record { same = c.refused.ensures.same; added = rw other c.refused.ensures.added }

pub returns : goal.returns
unfolding end_start end_of tally_line
returns c = λ condition.
    let last = both-adds c.number-4.ensures c.word.ensures in
    let all = both-adds c.number.ensures (both-adds c.number-2.ensures (both-adds c.number-3.ensures last)) in
    record { same = all.same; added = rw (eq-eqb _ _ c.if-refusal-ne0.false) all.added }
