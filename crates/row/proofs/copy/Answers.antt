use Rattle.row.proofs.Laws.{laid-law}
use Rattle.row.proofs.copy.Goals as goal

pub returns : goal.returns
returns c = rw c.copy_from_slice.ensures.after (laid-law c.args.to.now c.args.from.now c.min-n.result c.min-n.ensures)
