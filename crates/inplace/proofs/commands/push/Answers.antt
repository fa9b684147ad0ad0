use Rattle.condition.specs.Bytes.{push_of}
use Rattle.inplace.proofs.InPlace.{cursor-at, mode-at, scrolling-at}
use borrow.Author.Tests.{ne_eqb}
use Rattle.inplace.proofs.commands.push.Goals as goal

pub returns : goal.returns
unfolding push_of
returns c =
    rw (c.set_scrolling.ensures, c.put.ensures)
    (simp (cursor-at, mode-at, scrolling-at, ne_eqb _ _ c.if-on-eq1.false))
