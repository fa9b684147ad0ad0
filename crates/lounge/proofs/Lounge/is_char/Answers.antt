use mathlib.Core.Path.{sym}
use mathlib.Core.Bool.{or-true, or-false}
use borrow.Author.Tests.{le-leb, lt-leb}
use Rattle.users.specs.Users.{is_user}
use Rattle.lounge.specs.Condition.{users_of}
use Rattle.lounge.specs.Pairs.{is_char}
use Rattle.lounge.proofs.Lounge.is_char.Goals as goal

pub returns-then-b-ge32 : goal.returns-then-b-ge32
unfolding is_char
returns-then-b-ge32 c =
    let user = is_user (users_of c.args.self.now) c.args.b in
    rw (le-leb _ _ c.if-b-ge32.true) (sym (or-true user))

pub returns-else-b-ge32 : goal.returns-else-b-ge32
unfolding is_char
returns-else-b-ge32 c =
    let u = c.user_list.ensures in
    rw (c.is_user.ensures, u.0, u.1, lt-leb _ _ c.if-b-ge32.false) (sym (or-false _))
