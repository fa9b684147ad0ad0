use mathlib.Core.Path.{refl}
use Rattle.std.proofs.lemmas.Result.{err_from_is_err_and}
use Rattle.refusals.proofs.Laws.{numbered}
use Rattle.sign.proofs.Hosted.{power-up-refused, power-up-written}
use Rattle.sign.proofs.power_up.Goals as goal

pub returns-in_err-start : goal.returns-in_err-start
returns-in_err-start c =
    let e = err_from_is_err_and c.from_residual.result c.from_residual.ensures.1 in
    rw (e.1, e.2) (power-up-refused _ _ _ c.in_err-start.ensures (numbered _))

pub returns-in_err-write : goal.returns-in_err-write
returns-in_err-write c =
    let e = err_from_is_err_and c.from_residual-in_err-write.result c.from_residual-in_err-write.ensures.1 in
    rw (e.1, e.2) (power-up-written _ _ _ _ _ c.in_ok-start.ensures refl c.in_err-write.ensures)

pub returns : goal.returns
returns c = power-up-written _ _ _ _ _ c.in_ok-start.ensures refl c.in_ok-write.ensures
