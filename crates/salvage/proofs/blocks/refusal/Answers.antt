use Prim.Native.Nat.{◌/◌, ◌≤◌, ◌<◌}
use native.Mathlib.Omega.{arith}
use borrow.Author.Tests.{le-ltb, lt-ltb}
use Rattle.salvage.specs.Salvage.{salvage_refusal}
use Rattle.salvage.proofs.blocks.refusal.Goals as goal

pub returns-then-size-gt-MOST : goal.returns-then-size-gt-MOST
unfolding salvage_refusal
returns-then-size-gt-MOST c =
    let h : 10000 < c.args.size / 512 = omega arith in
    rw (lt-ltb _ _ h)

pub returns : goal.returns
unfolding salvage_refusal
returns c =
    let h : c.args.size / 512 ≤ 10000 = omega arith in
    rw (le-ltb _ _ h)
