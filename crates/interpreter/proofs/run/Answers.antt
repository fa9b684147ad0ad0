use mathlib.Core.Path.{refl}
use Rattle.std.proofs.lemmas.Result.{err_from_is_err_and}
use Rattle.refusals.proofs.Laws.{numbered}
use Rattle.condition.proofs.Good.{Sized}
use Rattle.interpreter.proofs.Answers.{by-number, refuses, promise}
use borrow.Author.Rules.{rules}
use Rattle.interpreter.proofs.run.Goals as goal
use Rattle.interpreter.proofs.run.Goals.{After-run_on}

sized : (c : After-run_on) → Sized c.args.c
sized c = record { codes-40 = search rules; fonts-40 = search rules; users-96 = search rules; held-4 = search rules }

pub returns-in_err-run_on : goal.returns-in_err-run_on
returns-in_err-run_on c =
    let p = err_from_is_err_and c.from_residual.result c.from_residual.ensures.1 in
    rw (p.1, p.2)
    (refuses _ _ _ _ _ refl (numbered _) (by-number _ _ _ _ c.in_err-run_on.ensures (numbered _)))

pub returns : goal.returns
returns c = promise _ _ _ _ (sized (goal.at.returns c).After-run_on) (search rules) c.in_ok-run_on.ensures
