use Rattle.condition.specs.Bytes.{down_of}
use Rattle.inplace.proofs.InPlace.{cursor-at, mode-at}
use borrow.Author.Tests.{le-ltb, ne_eqb}
use Rattle.inplace.proofs.commands.down.Goals as goal

pub returns : goal.returns
unfolding down_of
returns c =
    rw c.set_scrolling-2.ensures
    (simp (cursor-at, mode-at, ne_eqb _ _ c.if-m-eq2.false, ne_eqb _ _ c.if-m-eq1.false, le-ltb _ _ c.if-x-lt-COLUMNS.false))
