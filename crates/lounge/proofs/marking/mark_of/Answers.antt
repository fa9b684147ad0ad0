use Rattle.laws.proofs.Tests.{tests}
use Rattle.lounge.specs.Marks.{mark_of}
use Rattle.lounge.proofs.marking.mark_of.Goals as goal

pub returns-in-23 : goal.returns-in-23
unfolding mark_of
returns-in-23 c = rw c.in-23.is

pub returns-in-25 : goal.returns-in-25
unfolding mark_of
returns-in-25 c = rw c.in-25.is

pub returns-in_default : goal.returns-in_default
unfolding mark_of
returns-in_default c = search (tests, c.in_default)
