use mathlib.Core.Path.{◌∙◌}
use Rattle.planner.proofs.bytes.put_clear.Goals as goal
use Rattle.planner.proofs.bytes.put_clear.Goals.{then-clear, else-clear}

pub bounds-out-0 : goal.bounds-out-0
bounds-out-0 c = rw c.if-clear.true at c.requires

pub returns : goal.returns
returns c =
    let n = c.from.ensures in
    elim c.if-clear.branch [
      | then-clear w ↦ (n ∙ rw w.if-clear.true, w.out-is ∙ rw w.if-clear.true)
      | else-clear w ↦ (n ∙ rw w.if-clear.false, w.out-is ∙ rw w.if-clear.false)
    ]
