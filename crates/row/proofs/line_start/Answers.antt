use borrow.Author.Tests.{lt-ltb, le-ltb}
use native.Mathlib.Omega.{arith}
use Rattle.row.specs.Row.{line_start}
use Rattle.row.proofs.line_start.Goals as goal

pub returns-then-at-lt20 : goal.returns-then-at-lt20
unfolding line_start
returns-then-at-lt20 c = (rw (lt-ltb _ _ c.if-at-lt20.true), omega arith)

pub returns-else-at-lt20 : goal.returns-else-at-lt20
unfolding line_start
returns-else-at-lt20 c = (rw (le-ltb _ _ c.if-at-lt20.false), omega arith)
