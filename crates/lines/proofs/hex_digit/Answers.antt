use Rattle.lines.specs.Lines.{hex_digit}
use borrow.Author.Tests.{le-ltb, lt-ltb}
use Rattle.lines.proofs.hex_digit.Goals as goal

pub returns-then-n-lt10 : goal.returns-then-n-lt10
unfolding hex_digit
returns-then-n-lt10 c = rw (lt-ltb _ _ c.if-n-lt10.true)

pub returns-else-n-lt10 : goal.returns-else-n-lt10
unfolding hex_digit
returns-else-n-lt10 c = rw (le-ltb _ _ c.if-n-lt10.false)
