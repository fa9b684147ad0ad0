use borrow.Author.Tests.{ne_eqb}
use Rattle.refusals.proofs.Laws.{numbered}
use Rattle.lounge_entry.specs.Entry.{seen_number}
use Rattle.lounge_entry.proofs.seen_number.Goals as goal

pub returns-in-Ok : goal.returns-in-Ok
unfolding seen_number
returns-in-Ok c =
    rw (
      c.in-Ok.is,
      c.shows_number.ensures.0,
      c.level_number.ensures.0,
      c.bit.ensures.0,
      c.bit-in-Ok.ensures.0,
    )

pub returns-in-Err : goal.returns-in-Err
unfolding seen_number
returns-in-Err c = rw (c.in-Err.is, c.from.ensures, ne_eqb _ 0 (numbered c.in-Err.refusal))
