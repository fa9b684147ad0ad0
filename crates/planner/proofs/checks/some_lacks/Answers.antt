use mathlib.Core.Path.{◌∙◌}
use Rattle.std.proofs.Common.{rules, tests}
use Rattle.std.proofs.lemmas.Iterator.{YieldsList-from_slice}
use Rattle.std.proofs.lemmas.Iterator.Search.{any_from_yields_List}
use Rattle.users.specs.Users.{users_in}
use Rattle.planner.specs.Answer.{lacks}
use Rattle.planner.proofs.Wanted.{lacks-any}
use Rattle.planner.proofs.checks.some_lacks.Goals as goal

pub returns : goal.returns
unfolding lacks
returns c =
    let u = users_in c.args.users.now.bytes.now c.args.users.now.count in
    any_from_yields_List (lacks u) _ _ _ c.any.ensures.ran (YieldsList-from_slice c.args.wanted.now (cc))
    (λ x b q k. search (rules, tests))
    ∙ lacks-any u c.args.wanted.now
