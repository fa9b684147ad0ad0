use Rattle.block.proofs.Sealing.{check-weighty}
use Rattle.block.proofs.check_by.Goals as goal
use Rattle.block.proofs.check_by.Goals.{then-zeros, else-zeros}

pub returns : goal.returns
returns c =
    let decided = check-weighty c.args.block.now c.args.zeros c.if-zeros.n _ c.requires.0 c.requires.1 in
    elim c.if-zeros.branch [
      | then-zeros w ↦ decided (rw w.if-zeros.true w.n-is) c.weighed.ensures
      | else-zeros w ↦ decided (rw w.if-zeros.false w.n-is) c.weighed.ensures
    ]
