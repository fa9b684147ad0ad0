use mathlib.Core.Path.{◌≡◌}
use lib.ListN.{length}
use borrow.Author.Tests.{ne_eqb}
use Rattle.row.specs.Row.{on_picture, cleared_line, line_start}
use Rattle.row.proofs.Laws.{clear-line-law, on-picture}
use borrow.Author.Rules.{rules}
use Rattle.row.proofs.clear_line.Goals as goal

pub returns-then-cells-ne40 : goal.returns-then-cells-ne40
unfolding on_picture
returns-then-cells-ne40 c = rw (ne_eqb _ _ c.if-cells-ne40.true)

pub returns : goal.returns
returns c =
    let start = c.line_start-start in
    let a = c.args in
    let h : length a.cells.now ≡ 40 = search rules in
    rw (on-picture (cleared_line (line_start a.at) a.v) a.cells.now h, ← start.ensures.0)
    (clear-line-law a.cells.now _ start.result a.v h start.ensures.1 (search rules))
