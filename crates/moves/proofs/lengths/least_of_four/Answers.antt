use native.Mathlib.Omega.{arith}
use Rattle.moves.proofs.Four.{dist-four, min-is}
use borrow.Author.Rules.{rules}
use Rattle.moves.proofs.lengths.least_of_four.Goals as goal

pub overflow_sub-to : goal.overflow_sub-to
overflow_sub-to c = (c.forward.ensures c.if-forward.true).0

pub returns-then-forward : goal.returns-then-forward
returns-then-forward c = omega (arith, min-is, (c.forward.ensures c.if-forward.true).1)

pub returns : goal.returns
returns c =
    let a = c.args in
    omega (arith, min-is, dist-four a.from a.to (search rules) (search rules))
