use Prim.Native.Nat.{◌≤◌}
use native.Mathlib.Omega.{arith}
use lib.ListN.{length}
use Rattle.lines.proofs.Laws.{adds-within}
use Rattle.salvage.proofs.second.part_name.Goals as goal

pub returns-clause-within : goal.returns-clause-within
returns-clause-within c =
    let part = c.new-part in
    let empty : part.result.size ≤ length part.result.out.now = rw part.ensures.empty.1 (omega arith) in
    adds-within c.word-2.ensures (adds-within c.number.ensures (adds-within c.word.ensures empty))
