use mathlib.Core.Path.{refl, sym}
use native.Mathlib.Omega.{arith}
use lib.Dec.{eqb, ltb}
use borrow.Author.Tests.{eqb-true, ltb-true}
use Rattle.laws.proofs.Tests.{both}
use Rattle.show_lounge.proofs.Laws.{reading-starts, reading-turns, reading-ends}
use borrow.Author.Rules.{rules}
use Rattle.show_lounge.proofs.read_rest.Goals as goal

pub loop-size-init : goal.loop-size-init
loop-size-init g c = (reading-starts _, refl)

pub overflow_sub-left : goal.overflow_sub-left
overflow_sub-left g c =
    let l = c.loop-size in
    let t = both (eqb l.size 65536) (ltb 0 l.left) c.loop-size-test.true in
    omega (arith, ltb-true 0 l.left t.1)

pub loop-size-smaller : goal.loop-size-smaller
loop-size-smaller g c =
    let l = c.loop-size in
    let t = both (eqb l.size 65536) (ltb 0 l.left) c.loop-size-test.true in
    omega (arith, ltb-true 0 l.left t.1)

pub loop-size-preserved : goal.loop-size-preserved
loop-size-preserved g c =
    let l = c.loop-size in
    let t = both (eqb l.size 65536) (ltb 0 l.left) c.loop-size-test.true in
    let r = c.read_full-more_read in
    let long = sym r.ensures.in_bounds.1 in
    (reading-turns _ _ _ _ _ _ l.invariant.0 (eqb-true l.size 65536 t.0) long c.more-rest.ensures, search rules)

pub returns : goal.returns
returns g c = reading-ends _ _ _ c.loop-size.invariant.0
