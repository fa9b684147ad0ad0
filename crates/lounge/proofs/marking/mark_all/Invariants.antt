use mathlib.Core.Path.{◌≡◌}
use mathlib.Core.List.{map, ◌++◌}
use lib.ListN.{take, drop}
use Rattle.lounge.specs.Marks.{marked}
use Rattle.lounge.proofs.marking.mark_all.Given as goal

abbrev pub invariant-loop-m : goal.invariant-loop-m
invariant-loop-m l =
    l.m-items ≡ map (marked l.k) (take l.m-index l.initial.m-items) ++ drop l.m-index l.initial.m-items
