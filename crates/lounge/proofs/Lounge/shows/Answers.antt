use mathlib.Core.Path.{◌≡◌, sym, ◌∙◌}
use mathlib.Core.Bool.{Bool}
use Rattle.users.specs.Users.{is_user}
use Rattle.lounge.specs.Condition.{users_of}
use Rattle.lounge.specs.Shows.{shows_of}
use borrow.Author.Tests.{le-ltb, lt-ltb}
use Rattle.lounge.proofs.Lounge.shows.Goals as goal
use Rattle.lounge.proofs.Lounge.shows.Goals.{After-is_user}

-- whether a user character sits on the code
user : (c : After-is_user) {t : Bool} → c.is_user.result ≡ t → is_user (users_of c.args.self.now) c.args.code ≡ t
user c e = let u = c.user_list.ensures in rw (← u.0, ← u.1) (sym c.is_user.ensures ∙ e)

pub returns-then-is_user : goal.returns-then-is_user
unfolding shows_of
returns-then-is_user c = rw (user (goal.at.returns-then-is_user c).After-is_user c.if-is_user.true)

pub returns-then-code-lt32 : goal.returns-then-code-lt32
unfolding shows_of
returns-then-code-lt32 c =
    rw (user (goal.at.returns-then-code-lt32 c).After-is_user c.if-is_user.false, lt-ltb _ _ c.if-code-lt32.true)

pub returns-else-code-lt32 : goal.returns-else-code-lt32
unfolding shows_of
returns-else-code-lt32 c =
    rw (user (goal.at.returns-else-code-lt32 c).After-is_user c.if-is_user.false, le-ltb _ _ c.if-code-lt32.false)
