use mathlib.Core.Path.{sym, ap, ◌∙◌}
use Rattle.users.specs.Users.{is_user}
use Rattle.planner.proofs.Wanted.{at-list}
use Rattle.recovery.specs.Recovery.{lost}
use Rattle.recovery.proofs.is_lost.Goals as goal

pub returns-then-is_user : goal.returns-then-is_user
unfolding lost
returns-then-is_user c =
    let a = c.args in
    c.if-is_user.true
    ∙ rw (sym (c.is_user.ensures ∙ ap (λ u. is_user u 0x1b) (at-list a.c.now.users _ _ c.list.ensures)) ∙ c.if-is_user.true)

pub returns-else-is_user : goal.returns-else-is_user
unfolding lost
returns-else-is_user c =
    let a = c.args in
    c.makes_escape.ensures
    ∙ rw (sym (c.is_user.ensures ∙ ap (λ u. is_user u 0x1b) (at-list a.c.now.users _ _ c.list.ensures)) ∙ c.if-is_user.false)
