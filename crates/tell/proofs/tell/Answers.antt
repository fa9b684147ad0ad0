use Rattle.tell.proofs.tell.Goals as goal

pub returns : goal.returns
returns c =
    rw (c.run-run.ensures.answer, c.powered.ensures, c.zero.ensures) at (c.told.ensures c.powered.result c.zero.result)
