use mathlib.Core.Path.{◌≡◌}
use lib.ListN.{length}
use borrow.Author.Tests.{ne_eqb}
use Rattle.row.specs.Row.{on_picture, shifted, line_start}
use Rattle.row.proofs.Laws.{shift-law, on-picture}
use borrow.Author.Rules.{rules}
use Rattle.row.proofs.shift.Goals as goal

pub returns-then-cells-ne40 : goal.returns-then-cells-ne40
unfolding on_picture
returns-then-cells-ne40 c = rw (ne_eqb _ _ c.if-cells-ne40.true)

pub returns : goal.returns
returns c =
    let a = c.args in
    let start = c.line_start-start in
    let h : length a.cells.now ≡ 40 = search rules in
    rw (c.copy_within.ensures.after, on-picture (shifted (line_start a.at) a.v) a.cells.now h, ← start.ensures.0)
    (shift-law a.cells.now start.result a.v h start.ensures.1)
