use Rattle.lounge.specs.Pairs.{return_of}
use Rattle.lounge.proofs.Lounge.carriage_return.Goals as goal

pub returns : goal.returns
unfolding return_of
returns c = rw (c.go_to.ensures, c.line_start.ensures.0)
