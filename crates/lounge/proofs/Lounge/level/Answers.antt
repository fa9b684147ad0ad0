use Rattle.lounge.specs.Shows.{level_of}
use Rattle.lounge.proofs.Lounge.level.Goals as goal

pub returns-then-self-has_mark : goal.returns-then-self-has_mark
unfolding level_of
returns-then-self-has_mark c = rw (← c.has_mark.ensures, c.if-self-has_mark.true)

pub returns-else-self-has_mark : goal.returns-else-self-has_mark
unfolding level_of
returns-else-self-has_mark c = rw (← c.has_mark.ensures, c.if-self-has_mark.false)
