use native.Mathlib.Omega.{arith}
use borrow.Author.Rules.{rules}
use lib.Dec.{eqb}
use lib.ListN.{get_or}
use mathlib.Core.Path.{◌∙◌}
use Rattle.inplace.proofs.Running.{flag-byte, flag-most, going-starts, going-place, going-most, going-turns, going-ends}
use Rattle.inplace.proofs.run.run_in.Goals as goal

pub loop-b-init : goal.loop-b-init
loop-b-init c =
    let p = c.requires in
    (going-starts _ _ (search rules) p.0, p.1, p.2)

pub overflow_add-spent : goal.overflow_add-spent
overflow_add-spent c =
    let l = c.loop-b.invariant in
    omega (arith, c.from.ensures, flag-most (eqb (get_or c.loop-b.s 12 0) 1), (going-most _ _ _ _ _ _ _ l.0 l.1).1)

pub step-took-requires : goal.step-took-requires
step-took-requires c =
    let l = c.loop-b.invariant in
    (going-place _ _ _ _ _ _ _ l.0, l.2)

pub overflow_add-spent-in-loop-b : goal.overflow_add-spent-in-loop-b
overflow_add-spent-in-loop-b c =
    let l = c.loop-b.invariant in
    omega (arith, (going-most _ _ _ _ _ _ _ l.0 l.1).0)

pub overflow_add-spent-in-loop-b-2 : goal.overflow_add-spent-in-loop-b-2
overflow_add-spent-in-loop-b-2 c =
    let l = c.loop-b.invariant in
    omega (arith, (going-most _ _ _ _ _ _ _ l.0 l.1).2)

pub loop-b-preserved : goal.loop-b-preserved
loop-b-preserved c =
    let l = c.loop-b in
    rw (c.from-in-loop-b.ensures, c.from-in-loop-b-2.ensures) (
      going-turns _ _ _ _ _ _ _ l.invariant.0 _ _ _ c.loop-b-test.true (search rules) (search rules)
          c.step-took.ensures.0 (c.from.ensures ∙ flag-byte _),
      l.invariant.1,
      c.step-took.ensures.1,
    )

pub returns : goal.returns
returns c =
    let l = c.loop-b.invariant in
    (going-ends _ _ _ _ _ _ _ l.0 c.loop-b-test.false, l.2)
