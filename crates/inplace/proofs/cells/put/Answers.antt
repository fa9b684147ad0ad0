use Prim.Native.Nat.{ℕ}
use mathlib.Core.List.{List}
use lib.ListN.{get_or, set}
use Rattle.layout.specs.Layout.{condition_in}
use Rattle.inplace.proofs.InPlace.{cells-by}
use borrow.Author.Rules.{rules}
use Rattle.inplace.proofs.cells.put.Goals as goal

pub returns : goal.returns
unfolding condition_in
returns c =
    let a = c.args in
    cells-by (λ (l : List ℕ). set l a.at a.b) (λ (l : List ℕ). set l a.at (get_or a.s.now 7 0)) a.s.now _ _
    (search rules) (search rules) (search rules)
    c.put.ensures c.put-2.ensures
