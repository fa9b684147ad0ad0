use Prim.Native.Nat.{min}
use mathlib.Core.Path.{◌≡◌}
use native.Mathlib.Omega.{arith}
use Rattle.lines.specs.Lines.{each}
use Rattle.lines.proofs.Laws.{none-adds, each-adds}
use Rattle.tell.specs.Report.{user_at}
use Rattle.tell.proofs.users.Goals as goal

pub loop-i-init : goal.loop-i-init
unfolding each
loop-i-init c = none-adds _

pub loop-i-preserved : goal.loop-i-preserved
unfolding user_at
loop-i-preserved c = each-adds _ c.loop-i.i c.loop-i.invariant c.user.ensures

pub returns : goal.returns
returns c =
    let e : c.loop-i.i ≡ min c.args.c.now.users.count 16 = omega arith in
    rw e at c.loop-i.invariant
