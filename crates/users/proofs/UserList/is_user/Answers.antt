use mathlib.Core.Path.{ap, ◌∙◌}
use Rattle.std.specs.Option.{is_some}
use Rattle.users.specs.Users.{is_user}
use Rattle.users.proofs.UserList.is_user.Goals as goal

pub returns : goal.returns
unfolding is_user
returns c = c.is_some.ensures ∙ ap is_some c.find.ensures
