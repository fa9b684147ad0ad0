use Prim.Native.Nat.{◌≤◌}
use mathlib.Core.Path.{◌≡◌}
use Rattle.salvage.specs.Salvage.{count_of}
use Rattle.salvage.specs.Steps.{own_source}
use Rattle.salvage.proofs.report.count_kept.Given as goal

abbrev pub invariant-loop-i : goal.invariant-loop-i
invariant-loop-i l = (l.kept ≤ l.i) × (l.kept ≡ count_of (own_source l.sources) l.i)
