use mathlib.Core.Path.{◌≡◌}
use mathlib.Core.List.{map, ◌++◌}
use lib.ListN.{take, drop}
use Rattle.lounge.specs.Marks.{unmarked}
use Rattle.lounge.proofs.marking.cancel.Given as goal

abbrev pub invariant-loop-m : goal.invariant-loop-m
invariant-loop-m l =
    l.m-items ≡ map (unmarked l.k) (take l.m-index l.initial.m-items) ++ drop l.m-index l.initial.m-items
