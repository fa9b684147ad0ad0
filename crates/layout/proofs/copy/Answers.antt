use mathlib.Core.Path.{refl, ◌∙◌}
use native.Mathlib.Omega.{arith}
use Rattle.layout.proofs.Parts.{copy-turn, copied}
use borrow.Author.Rules.{rules}
use Rattle.layout.proofs.copy.Goals as goal

pub loop-i-preserved : goal.loop-i-preserved
loop-i-preserved c =
    let l = c.loop-i in
    (copy-turn c.args.to.now c.args.from.now l.to l.i l.invariant.0 (omega arith) (omega arith), search rules)

pub returns : goal.returns
returns c =
    let l = c.loop-i in
    l.invariant.0 ∙ copied c.args.to.now c.args.from.now l.i (omega arith) (omega arith)
