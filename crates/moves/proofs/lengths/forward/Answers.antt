use native.Mathlib.Omega.{arith}
use Prim.Native.Nat.{◌-◌}
use borrow.Author.Tests.{leb-true}
use Rattle.moves.proofs.Four.{dist-forward}
use borrow.Author.Rules.{rules}
use Rattle.moves.proofs.lengths.forward.Goals as goal

pub returns-then-from-to : goal.returns-then-from-to
returns-then-from-to c = λ e.
    let a = c.args in
    let near = leb-true (a.to - a.from) _ e in
    (omega arith, dist-forward a.from a.to (search rules) (search rules) (omega arith) (omega arith) (λ z. omega arith))
