use native.Mathlib.Omega.{arith}
use Rattle.moves.proofs.Four.{sideways-length, sideways-across}
use borrow.Author.Rules.{rules}
use Rattle.moves.proofs.lengths.sideways.Goals as goal

pub returns-then-line : goal.returns-then-line
returns-then-line c =
    let a = c.args in
    omega (arith, sideways-length a.from a.to)

pub returns-else-line : goal.returns-else-line
returns-else-line c =
    let a = c.args in
    omega (arith, sideways-across a.from a.to (search rules) (search rules) (λ e. omega arith))
