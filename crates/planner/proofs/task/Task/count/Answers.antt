use mathlib.Core.Path.{sym, ap, ◌∙◌}
use Rattle.users.specs.Users.{is_user}
use Rattle.planner.proofs.Clear.{counts-plain, counts-lesser}
use Rattle.planner.proofs.Wanted.{at-list}
use Rattle.planner.proofs.task.Task.count.Goals as goal

pub returns-then-is_user : goal.returns-then-is_user
returns-then-is_user c =
    counts-plain _ _ _ 0 c.count_by-plain.ensures (sym (c.is_user.ensures
    ∙ ap (λ u. is_user u 0x0e) (at-list c.args.self.start.now.users _ _ c.list.ensures)) ∙ c.if-is_user.true)

pub returns : goal.returns
returns c =
    c.min.ensures
    ∙ counts-lesser _ _ _ _ c.count_by-plain.ensures c.count_by.ensures (sym (c.is_user.ensures
    ∙ ap (λ u. is_user u 0x0e) (at-list c.args.self.start.now.users _ _ c.list.ensures)) ∙ c.if-is_user.false)
