use mathlib.Core.Path.{◌≡◌}
use native.Mathlib.Omega.{arith}
use lib.ListN.{length, take, drop, length-drop}
use lib.Seq.{take_all}
use Rattle.lines.specs.Lines.{cell_lines}
use Rattle.lines.proofs.Laws.{both-adds}
use borrow.Author.Rules.{rules}
use Rattle.lines.proofs.Text.cells.Goals as goal

pub returns : goal.returns
unfolding cell_lines
returns c =
    let codes = c.args.codes.now in
    let long : length codes ≡ 40 = search rules in
    let rest : take 20 (drop 20 codes) ≡ drop 20 codes = take_all 20 (drop 20 codes) (omega (arith, length-drop 20 codes)) in
    both-adds c.codes.ensures (rw rest at c.codes-2.ensures)
