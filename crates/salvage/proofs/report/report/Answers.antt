use Rattle.lines.proofs.Laws.{both-adds}
use Rattle.salvage.specs.Steps.{report_by}
use Rattle.salvage.proofs.report.report.Goals as goal

pub returns : goal.returns
unfolding report_by
returns c =
    let good = c.count_kept-kept.ensures.0 in
    both-adds c.changes.ensures (both-adds c.tail_line.ensures (rw good at c.counts.ensures))
