use Prim.Native.Nat.{ℕ, ◌+◌, ◌-◌}
use mathlib.Core.Path.{◌≡◌, sym, ap, ◌∙◌}
use native.Mathlib.Omega.{arith}
use Rattle.users.specs.Users.{room_of, users_in, without, with_youngest, define_in}
use Rattle.std.specs.Prelude.{Option, None, Some}
use Rattle.users.proofs.Laws.{Fits, leaving-fits, defines}
use borrow.Author.Tests.{lt-ltb}
use borrow.Author.Rules.{rules}
use Rattle.users.proofs.define.Goals as goal
use Rattle.users.proofs.define.Goals.{After-leaving}

pub returns-then-bytes-lt-PLACE : goal.returns-then-bytes-lt-PLACE
unfolding define_in
returns-then-bytes-lt-PLACE c = rw (lt-ltb _ _ c.if-bytes-lt-PLACE.true)

-- the place that goes is in use; where none goes, there is room for one more
fits : (l : After-leaving) (f : Option ℕ) → l.leaving.result ≡ f
    → Fits l.args.bytes.now l.limit-n.result f
unfolding room_of
fits l f e = leaving-fits _ _ _ _ f (omega arith) l.limit-n.ensures.0 (sym e ∙ l.leaving.ensures)

pub overflow_sub-youngest : goal.overflow_sub-youngest
overflow_sub-youngest c = omega (arith, fits (goal.at.overflow_sub-youngest c).After-leaving (Some _) c.in-Some.is)

pub remove-requires : goal.remove-requires
remove-requires c =
    let f = fits (goal.at.remove-requires c).After-leaving (Some _) c.in-Some.is in
    (omega (arith, f), omega (arith, f, c.limit-n.ensures))

pub overflow_mul-youngest : goal.overflow_mul-youngest
overflow_mul-youngest c =
    omega (arith, fits (goal.at.overflow_mul-youngest c).After-leaving (Some _) c.in-Some.is, c.limit-n.ensures)

pub put-requires : goal.put-requires
put-requires c =
    omega (arith, fits (goal.at.put-requires c).After-leaving (Some _) c.in-Some.is, c.limit-n.ensures)

pub overflow_cast-result : goal.overflow_cast-result
unfolding room_of
overflow_cast-result c =
    omega (arith, fits (goal.at.overflow_cast-result c).After-leaving (Some _) c.in-Some.is)

pub returns-in-Some : goal.returns-in-Some
unfolding without with_youngest
returns-in-Some c =
    let n = c.limit-n.result in
    let m : n ≡ n - 1 + 1 = omega (arith, fits (goal.at.returns-in-Some c).After-leaving (Some _) c.in-Some.is) in
    rw (c.put.ensures, c.remove.ensures)
    (ap (users_in _) m
    ∙ defines _ _ _ _ _ _ (Some _) (search rules) c.limit-n.ensures.0 (sym c.in-Some.is ∙ c.leaving.ensures))

pub put-requires-2 : goal.put-requires-2
unfolding room_of
put-requires-2 c = omega (arith, fits (goal.at.put-requires-2 c).After-leaving None c.in_default.is)

pub overflow_cast-result-2 : goal.overflow_cast-result-2
unfolding room_of
overflow_cast-result-2 c =
    omega (arith, fits (goal.at.overflow_cast-result-2 c).After-leaving None c.in_default.is)

pub returns : goal.returns
unfolding without with_youngest
returns c =
    rw c.put-2.ensures
    (defines _ _ _ _ _ _ None (search rules) c.limit-n.ensures.0
    (sym c.in_default.is ∙ c.leaving.ensures))
