use mathlib.Core.Path.{sym, ap, ◌∙◌}
use Rattle.users.specs.Users.{is_user}
use Rattle.planner.specs.Clear.{clear_wins}
use Rattle.planner.proofs.Wanted.{at-list}
use Rattle.planner.proofs.task.Task.clear_wins.Goals as goal

pub returns-then-not-is_user : goal.returns-then-not-is_user
unfolding clear_wins
returns-then-not-is_user c =
    rw (
      c.count_by.ensures,
      c.count_by-then-not-is_user.ensures,
      sym (c.is_user.ensures
          ∙ ap (λ u. is_user u 0x0e) (at-list c.args.self.start.now.users _ _ c.list.ensures)) ∙ c.if-not-is_user.true,
    )

pub returns-else-not-is_user : goal.returns-else-not-is_user
unfolding clear_wins
returns-else-not-is_user c =
    rw (
      c.if-not-is_user.false,
      sym (c.is_user.ensures
          ∙ ap (λ u. is_user u 0x0e) (at-list c.args.self.start.now.users _ _ c.list.ensures)) ∙ c.if-not-is_user.false,
    )
