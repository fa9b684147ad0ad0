use mathlib.Core.Path.{◌≡◌}
use Rattle.std.specs.Slice.Iter.{chunks_exact_rest, chunks_exact_size}
use Rattle.lounge.specs.Pairs.{run_of}
use Rattle.lounge.proofs.Kept.{Fit}
use Rattle.lounge.proofs.Lounge.run_in.Given as goal

abbrev pub invariant-loop-pair : goal.invariant-loop-pair
invariant-loop-pair l =
    (goal.iterator-loop-pair).can_next l.pair-iterator × (goal.iterator-loop-pair).is_finite l.pair-iterator
    × (chunks_exact_size l.pair-iterator ≡ 2) × Fit l.self
    × (run_of l.self (chunks_exact_rest l.pair-iterator) ≡ run_of l.initial.self l.pairs)
