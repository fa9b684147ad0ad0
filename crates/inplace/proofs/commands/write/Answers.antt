use mathlib.Core.Path.{◌∙◌, ap}
use Rattle.condition.specs.Bytes.{right_of}
use Rattle.inplace.proofs.Branches.{write-inner, write-on}
use Rattle.inplace.proofs.commands.write.Goals as goal

pub returns-then-below_19 : goal.returns-then-below_19
returns-then-below_19 c =
    rw (c.move_to.ensures, c.put.ensures)
    (write-inner _ _ c.below_19.ensures _ c.if-m-eq3.true c.if-below_19.true)

pub returns : goal.returns
returns c =
    c.right.ensures ∙ ap right_of c.put-2.ensures ∙ write-on _ _ c.if-m-eq3.false
