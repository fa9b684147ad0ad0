use mathlib.Core.Path.{refl}
use borrow.Author.Rules.{rules}
use Rattle.std.proofs.lemmas.Result.{err_from_is_err_and}
use Rattle.condition.proofs.Good.{Sized}
use Rattle.refusals.proofs.Laws.{numbered}
use Rattle.reel.proofs.Answers.{refused, put}
use Rattle.reel.proofs.reel.Goals as goal
use Rattle.reel.proofs.reel.Goals.{Start}

-- the start has its rows
abbrev Rows : Start → Type 0
Rows c = Sized c.args.c

rows : (c : Start) → Rows c
rows c = record { codes-40 = search rules; fonts-40 = search rules; users-96 = search rules; held-4 = search rules }

pub returns-in_err-check : goal.returns-in_err-check
returns-in_err-check c =
    let p = err_from_is_err_and c.from_residual.result c.from_residual.ensures.1 in
    rw (p.1, p.2) (refused _ _ _ _ _ c.in_err-check.ensures (numbered c.in_err-check.field-0.0.refusal) _ refl)

pub returns : goal.returns
returns c =
    put _ _ _ _ _ c.in_ok-check.ensures refl (rows (goal.at.returns c).Start) _ _ c.put_plans.ensures
