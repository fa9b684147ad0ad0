use Prim.Native.Nat.{suc, ◌+◌, ◌-◌}
use mathlib.Core.Path.{◌≡◌}
use native.Mathlib.Omega.{arith}
use borrow.Author.Tests.{eq-eqb, ne_eqb}
use Rattle.users.specs.Users.{found_in}
use Rattle.users.proofs.UserList.find.Goals as goal

pub loop-k-init : goal.loop-k-init
unfolding found_in
loop-k-init c =
    let e : c.limit-n.result - 0 ≡ c.limit-n.result = omega arith in
    (rw (e, c.limit-n.ensures.0), c.limit-n.ensures.1)

pub returns-then-self-k : goal.returns-then-self-k
returns-then-self-k c =
    let l = c.loop-k in
    let n = c.limit-n.result in
    let e : n - l.k ≡ suc (n - (l.k + 1)) = omega arith in
    rw (← l.invariant.0, e) (search eq-eqb)

pub loop-k-preserved : goal.loop-k-preserved
loop-k-preserved c =
    let l = c.loop-k in
    let n = c.limit-n.result in
    let e : n - l.k ≡ suc (n - (l.k + 1)) = omega arith in
    (rw (← l.invariant.0, e) (search ne_eqb), l.invariant.1)

pub returns : goal.returns
returns c =
    let l = c.loop-k in
    let e : c.limit-n.result - l.k ≡ 0 = omega arith in
    rw (← l.invariant.0, e)
