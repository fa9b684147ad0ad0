use mathlib.Core.Path.{sym, ◌∙◌}
use Rattle.condition.proofs.Characters.{plain-char, user-char, no_char}
use Rattle.inplace.proofs.Branches.{quick-step, char-step, control-step}
use Rattle.inplace.proofs.Altering.{idle-step}
use Rattle.inplace.proofs.run.step.Goals as goal

pub returns-then-kind-ne0 : goal.returns-then-kind-ne0
returns-then-kind-ne0 c =
    let w = c.parameter.ensures in
    (quick-step _ _ _ _ _ c.figures.ensures w.0 w.1, w.2)

pub returns-then-b-ge32 : goal.returns-then-b-ge32
returns-then-b-ge32 c =
    idle-step _ _ _ _ _ c.if-kind-ne0.false c.requires.1
    (char-step _ _ _ _ _ c.figures-then-b-ge32.ensures c.if-kind-ne0.false
    (plain-char _ _ c.if-b-ge32.true) c.character.ensures.0 c.character.ensures.1)

pub returns-then-is_user : goal.returns-then-is_user
returns-then-is_user c =
    idle-step _ _ _ _ _ c.if-kind-ne0.false c.requires.1
    (char-step _ _ _ _ _ c.figures-then-is_user.ensures c.if-kind-ne0.false
    (user-char _ _ (sym c.is_user.ensures ∙ c.if-is_user.true))
    c.character-then-is_user.ensures.0 c.character-then-is_user.ensures.1)

pub returns : goal.returns
returns c =
    idle-step _ _ _ _ _ c.if-kind-ne0.false c.requires.1
    (control-step _ _ _ _ _ c.figures-2.ensures c.if-kind-ne0.false
    (no_char _ _ (sym c.is_user.ensures ∙ c.if-is_user.false) c.if-b-ge32.false)
    c.control.ensures c.control_busy-quick.ensures)
