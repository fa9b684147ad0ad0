use mathlib.Core.Path.{◌≡◌}
use Prim.Native.Nat.{max}
use Rattle.std.specs.List.{fold}
use native.Mathlib.Omega.{arith}
use borrow.Author.Tests.{le-leb}
use Rattle.row.proofs.Ranges.{fold-max}
use borrow.Author.Rules.{rules}
use Rattle.row.proofs.up_to.Goals as goal

pub returns : goal.returns
returns c =
    let a = c.args in
    let e : c.fold.result ≡ fold max 0 a.s.now = search rules in
    rw (e, fold-max a.n 0 a.s.now, le-leb 0 a.n (omega arith))
