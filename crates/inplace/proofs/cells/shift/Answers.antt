use lib.ListN.{get_or}
use Rattle.row.specs.Row.{line_start, shifted}
use Rattle.layout.specs.Layout.{condition_in}
use Rattle.inplace.proofs.InPlace.{pictures-by}
use borrow.Author.Rules.{rules}
use Rattle.inplace.proofs.cells.shift.Goals as goal

pub returns : goal.returns
unfolding condition_in
returns c =
    let a = c.args in
    let s = a.s.now in
    pictures-by (shifted (line_start (get_or s 3 0)) a.b) (shifted (line_start (get_or s 3 0)) (get_or s 7 0)) s _ _
    (search rules) (search rules) (search rules)
    c.shift.ensures c.shift-2.ensures
