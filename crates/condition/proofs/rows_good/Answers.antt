use borrow.Author.Tests.{eq-eqb, ne_eqb, le-leb, lt-leb}
use mathlib.Core.Path.{◌≡◌}
use Prim.Native.Nat.{◌/◌, min}
use native.Mathlib.Omega.{arith}
use lib.ListN.{length}
use Rattle.users.specs.Users.{room_of, is_user, users_formed}
use Rattle.users.proofs.Formed.{absent-unfound}
use Rattle.condition.specs.Rows.{rows_good}
use Rattle.condition.proofs.rows_good.Goals as goal

pub returns-then-fonts-ne-CELLS : goal.returns-then-fonts-ne-CELLS
unfolding rows_good
returns-then-fonts-ne-CELLS c = rw (ne_eqb _ _ c.if-fonts-ne-CELLS.true)

pub returns-then-users-ne-BYTES : goal.returns-then-users-ne-BYTES
unfolding rows_good
returns-then-users-ne-BYTES c = rw (eq-eqb _ _ c.if-fonts-ne-CELLS.false, ne_eqb _ _ c.if-users-ne-BYTES.true)

pub returns-then-held-ne-HELD : goal.returns-then-held-ne-HELD
unfolding rows_good
returns-then-held-ne-HELD c = rw
    (eq-eqb _ _ c.if-fonts-ne-CELLS.false, eq-eqb _ _ c.if-users-ne-BYTES.false, ne_eqb _ _ c.if-held-ne-HELD.true)

pub returns-then-users-gt-MOST_USERS : goal.returns-then-users-gt-MOST_USERS
unfolding rows_good
returns-then-users-gt-MOST_USERS c =
    rw (
      eq-eqb _ _ c.if-fonts-ne-CELLS.false,
      eq-eqb _ _ c.if-users-ne-BYTES.false,
      eq-eqb _ _ c.if-held-ne-HELD.false,
      lt-leb _ _ c.if-users-gt-MOST_USERS.true,
    )

pub returns : goal.returns
unfolding rows_good users_formed room_of is_user
returns c =
    let a = c.args in
    let l = c.if-users-gt-MOST_USERS.false in
    let sized : length a.users.now.bytes.now ≡ 96 = c.if-users-ne-BYTES.false in
    rw (c.is_user.ensures, c.is_idle.ensures, c.held_formed.ensures, c.held.ensures)
    (rw (c.are_formed.ensures, c.up_to.ensures, absent-unfound a.users.now.bytes.now a.users.now.count 0x1b (omega arith))
    (rw (eq-eqb _ _ c.if-fonts-ne-CELLS.false, eq-eqb _ _ sized)
    (rw (
      eq-eqb _ _ c.if-held-ne-HELD.false,
      le-leb _ _ l,
      le-leb a.users.now.count (min 255 (length a.users.now.bytes.now / 6)) (omega arith),
    ))))
