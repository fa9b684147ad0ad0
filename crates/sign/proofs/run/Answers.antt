use mathlib.Core.Path.{refl, ◌∙◌}
use Rattle.std.proofs.lemmas.Result.{err_from_is_err_and}
use Rattle.refusals.proofs.Laws.{numbered}
use Rattle.sign.proofs.Hosted.{run_short, run-damaged, run-stopped, run-written}
use Rattle.sign.proofs.run.Goals as goal

pub returns-then-tally-ne-TALLY : goal.returns-then-tally-ne-TALLY
returns-then-tally-ne-TALLY c = run_short _ _ _ c.if-tally-ne-TALLY.true

pub returns-in_err-c : goal.returns-in_err-c
returns-in_err-c c =
    let e = err_from_is_err_and c.from_residual.result c.from_residual.ensures.1 in
    rw (e.1, e.2) (run-damaged _ _ _ c.if-tally-ne-TALLY.false _ c.in_err-c.ensures (numbered _))

pub returns-in_err-ran : goal.returns-in_err-ran
returns-in_err-ran c =
    let e = err_from_is_err_and c.from_residual-in_err-ran.result c.from_residual-in_err-ran.ensures.1 in
    rw (e.1, e.2)
    (run-stopped _ _ _ c.if-tally-ne-TALLY.false _ c.in_ok-c.ensures _ _ refl c.tally_at-t.ensures c.in_err-ran.ensures
    (numbered _))

pub returns : goal.returns
returns c =
    run-written _ _ _ c.if-tally-ne-TALLY.false _ c.in_ok-c.ensures _ _ refl c.tally_at-t.ensures c.in_ok-ran.ensures _ _ refl
    c.put.ensures (c.copy_from_slice.ensures.after ∙ c.tally_bytes.ensures)
