use native.Mathlib.Omega.{arith}
use Rattle.moves.proofs.Four.{start-length}
use borrow.Author.Rules.{rules}
use Rattle.moves.proofs.lengths.from_start.Goals as goal

pub returns-then-line : goal.returns-then-line
returns-then-line c =
    let a = c.args in
    omega (arith, start-length a.from a.to (search rules) (search rules))

pub returns-else-line : goal.returns-else-line
returns-else-line c =
    let a = c.args in
    omega (arith, start-length a.from a.to (search rules) (search rules))
