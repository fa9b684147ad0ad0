use Prim.Native.Nat.{◌-◌, ◌+◌, ◌*◌}
use mathlib.Core.Path.{◌≡◌}
use native.Mathlib.Omega.{arith}
use Rattle.lines.specs.Lines.{each}
use Rattle.lines.proofs.Laws.{none-adds, each-adds}
use Rattle.show_lounge.specs.Report.{user_line}
use Rattle.show_lounge.proofs.add_users.Goals as goal

pub loop-k-init : goal.loop-k-init
unfolding each
loop-k-init c = none-adds _

pub loop-k-preserved : goal.loop-k-preserved
unfolding user_line
loop-k-preserved c =
    let l = c.loop-k in
    let six : l.k * 6 + 6 - l.k * 6 ≡ 6 = omega arith in
    each-adds _ l.k l.invariant (rw six at c.add_user.ensures)
