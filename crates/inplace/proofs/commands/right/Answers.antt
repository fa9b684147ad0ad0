use mathlib.Core.Path.{◌∙◌, ap}
use Rattle.condition.specs.declared.Condition.{Condition}
use Rattle.condition.specs.Set.{with_cursor}
use Rattle.inplace.proofs.Branches.{right-next, right-scroll}
use Rattle.inplace.proofs.commands.right.Goals as goal

pub returns-then-x-eq-LAST_COLUMN : goal.returns-then-x-eq-LAST_COLUMN
returns-then-x-eq-LAST_COLUMN c =
    c.move_to-then-x-eq-LAST_COLUMN.ensures
    ∙ right-next _ _ c.below_19.ensures c.if-below_19.false c.if-m-eq3.false c.if-x-eq-LAST_COLUMN.true

pub returns : goal.returns
returns c =
    c.move_to-2.ensures ∙ ap (λ (k : Condition). with_cursor k 20) c.scroll.ensures
    ∙ right-scroll _ _ c.below_19.ensures c.if-below_19.false c.if-m-eq3.false c.if-x-eq-LAST_COLUMN.false
    c.if-m-eq1.false
