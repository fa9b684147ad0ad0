use Prim.Native.Nat.{ℕ}
use mathlib.Core.Path.{◌≡◌, ◌∙◌}
use mathlib.Core.List.{List, [], ◌∷◌}
use native.Mathlib.Omega.{arith}
use Rattle.std.proofs.Common.{rules, tests}
use Rattle.std.proofs.lemmas.Grind.{common_steps}
use Rattle.std.proofs.lemmas.Iterator.{YieldsList-from_slice}
use Rattle.std.proofs.lemmas.Iterator.Search.{any_from_yields_List}
use Rattle.std.specs.List.{list_any}
use Rattle.users.specs.declared.Users.{Users}
use Rattle.users.specs.Users.{is_user, users_in}
use Rattle.planner.specs.Answer.{on_move}
use Rattle.planner.proofs.checks.on_move.Goals as goal

-- the codes, as the code has them
abbrev codes : List ℕ
codes = 0x08 ∷ 0x09 ∷ 0x0a ∷ 0x0c ∷ 0x0d ∷ 0x1b ∷ []

any : (u : Users) → list_any (is_user u) codes ≡ on_move u
unfolding on_move
any u = grind (arith, common_steps)

pub returns : goal.returns
returns c =
    let u = users_in c.args.users.now.bytes.now c.args.users.now.count in
    any_from_yields_List (is_user u) _ _ _ c.any.ensures.ran (YieldsList-from_slice codes (cc)) (λ x b q k. search (rules, tests))
    ∙ any u
