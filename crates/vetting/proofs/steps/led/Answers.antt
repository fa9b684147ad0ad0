use Rattle.laws.proofs.Tests.{tests}
use Rattle.moves.specs.Moves.{move}
use Rattle.vetting.proofs.steps.led.Goals as goal

pub returns-in-8 : goal.returns-in-8
unfolding move
returns-in-8 c = rw (c.left.ensures, c.in-8.is)

pub returns-in-9 : goal.returns-in-9
unfolding move
returns-in-9 c = rw (c.next.ensures, c.in-9.is)

pub returns-in-10 : goal.returns-in-10
unfolding move
returns-in-10 c = rw (c.down.ensures, c.in-10.is)

pub returns-in-12 : goal.returns-in-12
unfolding move
returns-in-12 c = rw c.in-12.is

pub returns-in_default : goal.returns-in_default
unfolding move
returns-in_default c = rw c.line_start.ensures.0 (search (tests, c.in_default))
