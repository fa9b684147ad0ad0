use mathlib.Core.Path.{◌∙◌, ap, sym}
use Prim.Native.Nat.{◌≤◌}
use lib.ListN.{length, drop_of_length-le}
use borrow.Author.Tests.{lt-leb, le-leb}
use Rattle.laws.proofs.Lists.{tail-part}
use Rattle.row.specs.Row.{all_up_to}
use Rattle.users.specs.Users.{held_formed}
use native.Mathlib.Omega.{arith}
use Rattle.users.proofs.held_formed.Goals as goal

pub returns-then-n-gt-HELD : goal.returns-then-n-gt-HELD
unfolding held_formed
returns-then-n-gt-HELD c = rw (lt-leb _ _ c.if-n-gt-HELD.true)

pub returns-then-held-n : goal.returns-then-held-n
unfolding held_formed all_up_to
returns-then-held-n c =
    let a = c.args in
    let short : length a.held.now ≤ a.count = omega (arith, c.if-held-n.true) in
    rw (le-leb _ _ c.if-n-gt-HELD.false, drop_of_length-le a.held.now short)

pub returns : goal.returns
unfolding held_formed
returns c =
    let a = c.args in
    c.up_to.ensures ∙ ap (all_up_to 0) (tail-part a.held.now a.count) ∙ sym (rw (le-leb _ _ c.if-n-gt-HELD.false))
