use mathlib.Core.Path.{sym, ap, ◌∙◌}
use mathlib.Core.Bool.{Bool, ◌&&◌, and-true}
use native.Mathlib.Omega.{arith}
use lib.Dec.{leb}
use Rattle.lounge.proofs.Turns.{kinds-turn, kinds-ended}
use Rattle.lounge.proofs.kinds_formed.Goals as goal

pub loop-k-preserved : goal.loop-k-preserved
loop-k-preserved c =
    let l = c.loop-k in
    rw c.max-most.ensures (kinds-turn c.args.pairs.now l.k l.most (omega arith) ∙ l.invariant)

pub returns : goal.returns
returns c =
    let l = c.loop-k in
    sym (sym l.invariant ∙ ap (λ (t : Bool). leb l.most 1 && t) (kinds-ended c.args.pairs.now l.k (omega arith)) ∙ and-true _)
