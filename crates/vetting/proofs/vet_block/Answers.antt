use mathlib.Core.Path.{refl}
use Rattle.std.proofs.lemmas.Result.{err_from_is_err_and}
use Rattle.refusals.proofs.Laws.{numbered}
use Rattle.vetting.proofs.Answers.{block-short, block-damaged, block-vetted}
use Rattle.vetting.proofs.vet_block.Goals as goal

pub returns-then-wanted-ne-CELLS : goal.returns-then-wanted-ne-CELLS
returns-then-wanted-ne-CELLS c = block-short _ _ _ _ c.if-wanted-ne-CELLS.true

pub returns-in_err-c : goal.returns-in_err-c
returns-in_err-c c =
    let e = err_from_is_err_and c.from_residual.result c.from_residual.ensures.1 in
    rw (e.1, e.2) (block-damaged _ _ _ _ _ c.in_err-c.ensures c.if-wanted-ne-CELLS.false (numbered _))

pub returns : goal.returns
returns c =
    block-vetted _ _ _ _ _ c.in_ok-c.ensures c.if-wanted-ne-CELLS.false refl _ c.vet.ensures
