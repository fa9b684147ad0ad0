use native.Mathlib.Nat.{le_trans}
use Rattle.lines.proofs.Laws.{whole-added}
use Rattle.vet.proofs.Laws.{line-length}
use Rattle.vet.proofs.vet.Goals as goal

pub returns : goal.returns
returns c =
    let added = rw (c.new-text.ensures.empty.0, c.new-text.ensures.empty.1) at c.told.ensures.added in
    let whole = whole-added added (le_trans (line-length _) c.requires) in
    rw c.judge-v.ensures at whole
