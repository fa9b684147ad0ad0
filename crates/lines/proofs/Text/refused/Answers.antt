use Rattle.lines.specs.Lines.{refused_line}
use Rattle.lines.proofs.Laws.{both-adds}
use Rattle.lines.proofs.Text.refused.Goals as goal

pub returns : goal.returns
unfolding refused_line
returns c = both-adds c.number.ensures c.word.ensures
