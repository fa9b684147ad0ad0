use Rattle.lines.proofs.Laws.{both-adds, decimal-is}
use borrow.Author.Rules.{rules}
use Rattle.lines.proofs.Text.number.Goals as goal

pub returns : goal.returns
returns c =
    let d = c.decimal-d in
    let e = decimal-is d.new.out _ d.result d.ensures.len (search rules) d.ensures.digits in
    both-adds c.word.ensures (rw e at c.word-2.ensures)
