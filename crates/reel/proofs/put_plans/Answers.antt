use mathlib.Core.Path.{refl}
use native.Mathlib.Omega.{arith}
use Rattle.reel.proofs.Putting.{accepted-ok, put-start, wanted-40, taken-on, put-turn, put-end}
use Rattle.reel.proofs.put_plans.Goals as goal

pub loop-k-init : goal.loop-k-init
loop-k-init c = put-start _ _ _ _ _ c.requires refl

pub unwrap-length-requires : goal.unwrap-length-requires
unwrap-length-requires c =
    accepted-ok c.plan.result
    (taken-on _ _ _ _ _ _ _ _ _ c.loop-k.invariant c.loop-k-test.true _ c.codes_of-wanted.ensures _ _
    (rw c.from.ensures at c.plan.ensures))

pub loop-k-preserved : goal.loop-k-preserved
loop-k-preserved c =
    put-turn _ _ _ _ _ _ _ _ _ c.loop-k.invariant c.loop-k-test.true _ c.codes_of-wanted.ensures _ _
    (rw (c.from.ensures, c.unwrap-length.ensures) at c.plan.ensures) _ c.left_by-left.ensures

pub returns : goal.returns
returns c = put-end _ _ _ _ _ _ _ _ _ c.loop-k.invariant c.loop-k-test.false _

-- What the statements ask for -----------------------------------------------------------------------------------------------------
pub codes_of-wanted-requires : goal.codes_of-wanted-requires
codes_of-wanted-requires c =
    let g = c.loop-k.invariant.given in
    (omega (arith, g.most-64, c.loop-k-test.true), omega (arith, g.codes-40, c.loop-k-test.true))

pub left_by-left-requires : goal.left_by-left-requires
left_by-left-requires c =
    wanted-40 _ _ _ _ _ _ _ _ _ c.loop-k.invariant c.loop-k-test.true _ c.codes_of-wanted.ensures
