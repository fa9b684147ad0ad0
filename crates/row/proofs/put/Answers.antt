use lib.Seq.{set_out}
use mathlib.Core.Path.{sym}
use Rattle.row.proofs.put.Goals as goal

pub returns-else-place-cells : goal.returns-else-place-cells
returns-else-place-cells c = sym (set_out _ _ _ c.if-place-cells.false)
