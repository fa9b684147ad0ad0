use mathlib.Core.Path.{refl}
use Rattle.std.proofs.lemmas.Result.{err_from_is_err_and}
use Rattle.refusals.proofs.Laws.{numbered}
use Rattle.lounge_entry.proofs.Answers.{sizes, stands, no-sizes, wrong-sizes, not-run, is-run}
use Rattle.lounge_entry.proofs.run.Goals as goal

pub returns-in_err-c : goal.returns-in_err-c
returns-in_err-c c =
    let p = err_from_is_err_and c.from_residual.result c.from_residual.ensures.1 in
    let q = no-sizes _ _ _ _ _ c.in_err-c.ensures in
    rw (p.1, p.2, q.1) (wrong-sizes _ _ _ _ _ q.0)

pub returns-in_err-after : goal.returns-in_err-after
returns-in_err-after c =
    let p = err_from_is_err_and c.from_residual-in_err-after.result c.from_residual-in_err-after.ensures.1 in
    let q = stands _ _ _ _ _ c.in_ok-c.ensures in
    rw (p.1, p.2) (not-run _ _ _ _ _ q.0 _ q.1 _ c.in_err-after.ensures.answer (numbered _))

pub put-requires : goal.put-requires
put-requires c = sizes _ _ _ _ (stands _ _ _ _ _ c.in_ok-c.ensures).0

pub returns : goal.returns
returns c =
    let q = stands _ _ _ _ _ c.in_ok-c.ensures in
    let p = c.put.ensures in
    is-run _ _ _ _ _ q.0 _ q.1 _ c.in_ok-after.ensures.answer _ _ _ _ refl p.0 p.1 p.2 p.3
