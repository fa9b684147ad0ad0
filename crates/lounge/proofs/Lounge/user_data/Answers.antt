use mathlib.Core.Path.{◌≡◌, ap, ◌∙◌}
use Prim.Native.Nat.{◌≤◌, ◌%◌}
use Rattle.lounge.specs.Condition.{users_of}
use lib.ListN.{length, replicate}
use Rattle.users.specs.declared.Users.{Users}
use Rattle.lounge.specs.declared.Pending.TheVariants.{Nothing}
use borrow.Author.Rules.{rules}
use borrow.Author.Tests.{lt-ltb, le-ltb}
use Rattle.users.specs.Users.{users_in, define_in, define_of}
use Rattle.lounge.specs.Set.{with_users, with_pending, with_held}
use Rattle.lounge.specs.Pairs.{data_of}
use Rattle.lounge.proofs.Lounge.user_data.Goals as goal

pub returns-then-n-lt-HELD : goal.returns-then-n-lt-HELD
unfolding data_of
returns-then-n-lt-HELD c = rw (lt-ltb _ _ c.if-n-lt-HELD.true)

pub returns : goal.returns
unfolding data_of define_in
returns c =
    let k = c.args.self.now in
    let after = users_in c.define-self.new.bytes c.define-self.result in
    let l : 6 ≤ length k.users = search rules in
    let e : after ≡ define_of (users_of k) c.args.code k.held (c.args.d % 8) =
    c.define-self.ensures ∙ rw (le-ltb (length k.users) 6 l) in
    let f = λ (u : Users). with_pending (with_held (with_users k u) (replicate 4 0)) Nothing in
    rw (le-ltb _ _ c.if-n-lt-HELD.false) (ap f e)
