use mathlib.Core.Path.{refl, ◌∙◌}
use Rattle.std.proofs.lemmas.Result.{err_from_is_err_and}
use Rattle.refusals.proofs.Laws.{numbered}
use Rattle.reel.proofs.Turns.{whole-stops, whole-passes, whole-given}
use Rattle.reel.proofs.check.Goals as goal

pub returns-in_err-check_whole : goal.returns-in_err-check_whole
returns-in_err-check_whole c =
    let p = err_from_is_err_and c.from_residual.result c.from_residual.ensures.1 in
    rw p.1 (p.2 ∙ whole-stops _ _ _ _ _ c.in_err-check_whole.ensures (numbered c.in_err-check_whole.field-0.0))

pub check_pictures-requires : goal.check_pictures-requires
check_pictures-requires c = whole-given _ _ _ _ 0 c.in_ok-check_whole.ensures refl

pub returns : goal.returns
returns c = whole-passes _ _ _ _ 0 c.in_ok-check_whole.ensures refl _ c.check_pictures.ensures
