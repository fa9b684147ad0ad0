use Rattle.lines.proofs.Laws.{both-adds}
use Rattle.vet.proofs.line.Goals as goal

pub returns : goal.returns
returns c = both-adds c.number.ensures c.word.ensures
