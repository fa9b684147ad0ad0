use Rattle.std.proofs.lemmas.Result.{err_from_is_err_and}
use Rattle.lounge_entry.specs.Entry.{seen_in}
use Rattle.lounge_entry.proofs.Answers.{stands, no-sizes}
use Rattle.lounge_entry.proofs.view.Goals as goal

pub returns-in_err-condition_in : goal.returns-in_err-condition_in
unfolding seen_in
returns-in_err-condition_in c =
    let p = err_from_is_err_and c.from_residual.result c.from_residual.ensures.1 in
    let q = no-sizes _ _ _ _ _ c.in_err-condition_in.ensures in
    rw (p.1, p.2, q.0, q.1)

pub returns : goal.returns
unfolding seen_in
returns c =
    let q = stands _ _ _ _ _ c.in_ok-condition_in.ensures in
    rw (c.view.ensures, q.0, q.1)
