use Prim.Native.Nat.{ℕ}
use mathlib.Core.Path.{subst}
use Rattle.interpreter.specs.Run.{refused_of}
use Rattle.lines.specs.Lines.{Ends, end_start, end_of}
use Rattle.refusals.proofs.Laws.{numbered}
use borrow.Author.Tests.{ne_eqb}
use Rattle.lines.proofs.Text.end.Goals as goal

pub returns-in-Ok : goal.returns-in-Ok
returns-in-Ok c = λ condition t. rw c.in-Ok.is (c.end_by.ensures c.in-Ok.ran.condition)

pub returns-in-Err : goal.returns-in-Err
unfolding end_start end_of
returns-in-Err c = λ condition t.
    let Told : ℕ → Type 0 = λ n. Ends c.args.self.now (refused_of n condition c.zero.result) c.end_by-in-Err.new.self in
    let alone = subst Told c.into.ensures (c.end_by-in-Err.ensures condition) in
    let other = ne_eqb _ _ (numbered c.in-Err.refusal) in
    rw c.in-Err.is (record { same = alone.same; added = rw other (rw other at alone.added) })
