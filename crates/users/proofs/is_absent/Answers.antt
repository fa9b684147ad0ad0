use Prim.Native.Nat.{◌+◌, ◌-◌, ◌*◌}
use mathlib.Core.Path.{◌≡◌, refl, sym, ◌∙◌}
use native.Mathlib.Omega.{arith}
use borrow.Author.Tests.{eq-eqb, ne_eqb}
use Rattle.users.specs.Users.{absent}
use Rattle.users.proofs.Formed.{absent-step}
use Rattle.users.proofs.is_absent.Goals as goal

pub returns-then-s-k : goal.returns-then-s-k
returns-then-s-k c =
    let a = c.args in
    let l = c.loop-k in
    sym (l.invariant.0 ∙ absent-step a.x (a.n - l.k) a.s.now (l.k * 6) (omega arith) ∙ rw (eq-eqb _ _ c.if-s-k.true))

pub loop-k-preserved : goal.loop-k-preserved
loop-k-preserved c =
    let a = c.args in
    let l = c.loop-k in
    let left = ne_eqb _ _ c.if-s-k.false in
    let next : l.k * 6 + 6 ≡ (l.k + 1) * 6 = omega arith in
    let fewer : a.n - l.k - 1 ≡ a.n - (l.k + 1) = omega arith in
    (l.invariant.0 ∙ absent-step a.x (a.n - l.k) a.s.now (l.k * 6) (omega arith) ∙ rw (left, next, fewer), l.invariant.1)

pub returns : goal.returns
unfolding absent
returns c =
    let a = c.args in
    let l = c.loop-k in
    let z : a.n - l.k ≡ 0 = omega arith in
    sym (l.invariant.0 ∙ rw z)
