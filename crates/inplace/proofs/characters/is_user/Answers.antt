use native.Mathlib.Omega.{arith}
use mathlib.Core.Path.{ap, ◌∙◌}
use Rattle.users.specs.declared.Users.{Users}
use Rattle.users.specs.Users.{is_user}
use Rattle.layout.specs.Layout.{condition_in}
use Rattle.inplace.proofs.Altering.{looked-up-in}
use Rattle.inplace.proofs.characters.is_user.Goals as goal

pub returns-in-Some : goal.returns-in-Some
returns-in-Some c =
    let h = c.in-Some.ensures.lookup.3 in
    rw (h.1 0, c.from.ensures) (looked-up-in _ (condition_in c.args.s.now) _ c.requires (omega (arith, h.0, c.from.ensures)))

pub returns-in-None : goal.returns-in-None
returns-in-None c = c.is_user.ensures ∙ ap (λ (u : Users). is_user u c.args.code) c.list.ensures
