use mathlib.Core.Path.{◌≡◌, sym, ap, ◌∙◌}
use mathlib.Core.Bool.{true, false, and-false}
use Prim.Native.Nat.{◌+◌, ◌-◌, ◌*◌}
use native.Mathlib.Omega.{arith}
use lib.Dec.{ltb}
use lib.ListN.{get_or, drop, length-drop}
use borrow.Author.Tests.{lt-ltb, le-ltb, le-leb, lt-leb}
use Rattle.laws.proofs.Lists.{tail-part}
use Rattle.row.specs.Row.{all_up_to}
use Rattle.users.specs.Users.{absent, room_of, places_formed, users_formed}
use Rattle.users.proofs.Formed.{places-step}
use Rattle.users.proofs.UserList.are_formed.Goals as goal

pub returns-then-room-n : goal.returns-then-room-n
unfolding users_formed
returns-then-room-n c = rw (lt-leb _ _ (rw c.room.ensures at c.if-room-n.true))

pub loop-k-init : goal.loop-k-init
unfolding users_formed room_of
loop-k-init c =
    let n = c.args.self.now.count in
    let l = rw c.room.ensures at c.if-room-n.false in
    let all : n - 0 ≡ n = omega arith in
    (rw (le-leb _ _ l, all), omega (arith, l))

pub returns-then-bound-self : goal.returns-then-bound-self
returns-then-bound-self c =
    let a = c.args in
    let s = a.self.now.bytes.now in
    let l = c.loop-k in
    let high = le-ltb (get_or s (l.k * 6 + 5) 0) a.bound (omega (arith, c.if-bound-self.true)) in
    sym (l.invariant.0 ∙ places-step a.bound (a.self.now.count - l.k) s (l.k * 6) (omega arith) ∙ rw high)

pub returns-then-not-is_absent : goal.returns-then-not-is_absent
returns-then-not-is_absent c =
    let a = c.args in
    let l = c.loop-k in
    let s = a.self.now.bytes.now in
    let at = l.k * 6 in
    let n = a.self.now.count - l.k in
    let gone : absent (get_or s at 0) (n - 1) (drop (at + 6) s) ≡ false =
    ap (absent _ _) (sym (tail-part s (at + 6))) ∙ sym c.is_absent.ensures ∙ c.if-not-is_absent.true in
    let fifth = ltb (get_or s (at + 5) 0) a.bound in
    sym (l.invariant.0 ∙ places-step a.bound n s at (omega arith) ∙ rw gone (and-false fifth))

pub loop-k-preserved : goal.loop-k-preserved
loop-k-preserved c =
    let a = c.args in
    let l = c.loop-k in
    let s = a.self.now.bytes.now in
    let at = l.k * 6 in
    let n = a.self.now.count - l.k in
    let there : absent (get_or s at 0) (n - 1) (drop (at + 6) s) ≡ true =
    ap (absent _ _) (sym (tail-part s (at + 6))) ∙ sym c.is_absent.ensures ∙ c.if-not-is_absent.false in
    let low = lt-ltb _ a.bound c.if-bound-self.false in
    let next : at + 6 ≡ (l.k + 1) * 6 = omega arith in
    let fewer : n - 1 ≡ a.self.now.count - (l.k + 1) = omega arith in
    (l.invariant.0 ∙ places-step a.bound n s at (omega arith) ∙ rw (there, low, next, fewer), l.invariant.1)

pub returns : goal.returns
unfolding places_formed
returns c =
    let a = c.args in
    let l = c.loop-k in
    let e : l.k ≡ a.self.now.count = omega arith in
    let z : a.self.now.count - l.k ≡ 0 = omega arith in
    c.up_to.ensures ∙ ap (all_up_to 0) (tail-part a.self.now.bytes.now (a.self.now.count * 6)) ∙ sym (l.invariant.0 ∙ rw (z, e))
