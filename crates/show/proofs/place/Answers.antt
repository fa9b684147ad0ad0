use Rattle.lines.proofs.Laws.{both-adds}
use Rattle.show.specs.Report.{place_line}
use Rattle.show.proofs.place.Goals as goal

pub returns : goal.returns
unfolding place_line
returns c =
    both-adds c.number.ensures (both-adds c.number-2.ensures (both-adds c.number-3.ensures c.word.ensures))
