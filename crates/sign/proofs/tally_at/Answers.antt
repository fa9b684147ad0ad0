use Rattle.sign.specs.Calls.{tally_at}
use Rattle.sign.proofs.tally_at.Goals as goal

pub returns : goal.returns
unfolding tally_at
returns c =
    rw (c.number_at-4.ensures, c.number_at-3.ensures, c.number_at-2.ensures, c.number_at.ensures)
