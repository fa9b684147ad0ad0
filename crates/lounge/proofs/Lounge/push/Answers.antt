use Rattle.lounge.specs.Pairs.{push_of}
use Rattle.lounge.proofs.Lounge.push.Goals as goal

pub returns-then-self : goal.returns-then-self
unfolding push_of
returns-then-self c = rw (c.shift.ensures, c.if-self.true)

pub returns-else-self : goal.returns-else-self
unfolding push_of
returns-else-self c = rw (c.put.ensures, c.if-self.false)
