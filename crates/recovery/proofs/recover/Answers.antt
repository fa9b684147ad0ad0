use mathlib.Core.Path.{sym}
use borrow.Author.Rules.{rules}
use Rattle.std.proofs.lemmas.Result.{err_from_is_err_and}
use Rattle.condition.proofs.Good.{Sized}
use Rattle.recovery.specs.Recovery.{get_back}
use Rattle.recovery.proofs.Answers.{refuses, puts}
use Rattle.recovery.proofs.recover.Goals as goal
use Rattle.recovery.proofs.recover.Goals.{Start}

-- the condition has its rows
abbrev Rows : Start → Type 0
Rows c = Sized c.args.c

rows : (c : Start) → Rows c
rows c = record { codes-40 = search rules; fonts-40 = search rules; users-96 = search rules; held-4 = search rules }

pub returns-in_err-check : goal.returns-in_err-check
returns-in_err-check c =
    let p = err_from_is_err_and c.from_residual.result c.from_residual.ensures.1 in
    rw (p.1, p.2) (refuses _ _ (rows (goal.at.returns-in_err-check c).Start) _ c.in_err-check.ensures)

pub returns : goal.returns
unfolding get_back
returns c =
    puts _ _ (rows (goal.at.returns c).Start) _ (sym c.in_ok-check.ensures) c.copy.ensures
