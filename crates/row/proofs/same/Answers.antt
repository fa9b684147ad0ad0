use mathlib.Core.Path.{refl, sym, ◌∙◌}
use native.Mathlib.Omega.{arith}
use Rattle.row.proofs.Alike.{other_length, same_turn, same_ended}
use Rattle.row.proofs.same.Goals as goal

pub returns-then-a-b : goal.returns-then-a-b
returns-then-a-b c = sym (other_length _ _ c.if-a-b.true)

pub loop-i-preserved : goal.loop-i-preserved
loop-i-preserved c =
    let a = c.args in
    let l = c.loop-i in
    (same_turn a.a.now a.b.now l.i l.alike (omega arith) (omega arith) ∙ l.invariant.0, l.invariant.1)

pub returns : goal.returns
returns c =
    let a = c.args in
    let l = c.loop-i in
    sym (same_ended a.a.now a.b.now l.i l.alike (omega arith) (omega arith)) ∙ l.invariant.0
