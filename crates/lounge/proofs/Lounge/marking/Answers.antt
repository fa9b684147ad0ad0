use Rattle.laws.proofs.Tests.{tests}
use Rattle.lounge.specs.Pairs.{marking_of}
use Rattle.lounge.proofs.Lounge.marking.Goals as goal

pub returns-in-23 : goal.returns-in-23
unfolding marking_of
returns-in-23 c = rw c.in-23.is

pub returns-in-24 : goal.returns-in-24
unfolding marking_of
returns-in-24 c = rw (c.cancel.ensures, c.in-24.is)

pub returns-in-25 : goal.returns-in-25
unfolding marking_of
returns-in-25 c = rw c.in-25.is

pub returns-in-26 : goal.returns-in-26
unfolding marking_of
returns-in-26 c = rw (c.cancel-in-26.ensures, c.in-26.is)

pub returns-in-27 : goal.returns-in-27
unfolding marking_of
returns-in-27 c = rw c.in-27.is

pub returns-in-28 : goal.returns-in-28
unfolding marking_of
returns-in-28 c = rw c.in-28.is

pub returns-in-29 : goal.returns-in-29
unfolding marking_of
returns-in-29 c = rw (c.cancel-in-29.ensures, c.in-29.is)

pub returns-in_default : goal.returns-in_default
unfolding marking_of
returns-in_default c = search (tests, c.in_default)
