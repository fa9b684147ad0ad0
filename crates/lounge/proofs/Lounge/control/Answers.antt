use Rattle.laws.proofs.Tests.{tests}
use Rattle.lounge.specs.Pairs.{control_of}
use Rattle.lounge.proofs.Lounge.control.Goals as goal

pub returns-in-9 : goal.returns-in-9
unfolding control_of
returns-in-9 c = rw (c.tab.ensures, c.in-9.is)

pub returns-in-13 : goal.returns-in-13
unfolding control_of
returns-in-13 c = rw (c.carriage_return.ensures, c.in-13.is)

pub returns-in-17 : goal.returns-in-17
unfolding control_of
returns-in-17 c = rw (c.select.ensures, c.in-17.is)

pub returns-in-18 : goal.returns-in-18
unfolding control_of
returns-in-18 c = rw (c.select-in-18.ensures, c.in-18.is)

pub returns-in_default : goal.returns-in_default
unfolding control_of
returns-in_default c = rw c.marking.ensures (search (tests, c.in_default))
