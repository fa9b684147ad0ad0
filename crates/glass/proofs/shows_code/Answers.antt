use mathlib.Core.Bool.{Bool, and-false}
use Rattle.users.specs.Users.{is_user}
use mathlib.Core.Path.{◌≡◌, sym, ◌∙◌}
use Rattle.glass.specs.Shows.{shows_code}
use borrow.Author.Tests.{eq-eqb, ne_eqb, le-ltb, lt-ltb}
use Rattle.glass.proofs.shows_code.Goals as goal
use Rattle.glass.proofs.shows_code.Goals.{After-is_user, then-c, else-c}
use Rattle.glass.proofs.shows_code.Goals.{else-code-eq173-via-then-code-eq173+else-font-eq0, else-code-eq173-via-else-code-eq173}

-- whether a user character sits on the code, by the lookup
user : (c : After-is_user) {t : Bool} → c.is_user.result ≡ t
    → is_user c.args.c.now.users c.args.code ≡ t
unfolding is_user
user c e = rw (← c.list.ensures.0, ← c.list.ensures.1) (sym c.is_user.ensures ∙ e)

pub returns-then-is_user : goal.returns-then-is_user
unfolding shows_code
returns-then-is_user c = rw (user (goal.at.returns-then-is_user c).After-is_user c.if-is_user.true)

pub returns-then-code-lt32 : goal.returns-then-code-lt32
unfolding shows_code
returns-then-code-lt32 c =
    rw (user (goal.at.returns-then-code-lt32 c).After-is_user c.if-is_user.false, lt-ltb _ _ c.if-code-lt32.true)

pub returns-then-font-eq0 : goal.returns-then-font-eq0
unfolding shows_code
returns-then-font-eq0 c =
    let u = user (goal.at.returns-then-font-eq0 c).After-is_user c.if-is_user.false in
    let l = le-ltb _ _ c.if-code-lt32.false in
    elim c.if-c.branch [
      | then-c w ↦ rw (w.result-is, u, l, eq-eqb _ _ c.if-code-eq173.true, eq-eqb _ _ c.if-font-eq0.true, w.if-c.true)
      | else-c w ↦ rw (w.result-is, u, l, eq-eqb _ _ c.if-code-eq173.true, eq-eqb _ _ c.if-font-eq0.true, w.if-c.false)
    ]

pub returns : goal.returns
unfolding shows_code
returns c =
    let u = user (goal.at.returns c).After-is_user c.if-is_user.false in
    elim c.else-code-eq173.branch [
      | else-code-eq173-via-then-code-eq173+else-font-eq0 w ↦
          rw (u, le-ltb _ _ c.if-code-lt32.false, ne_eqb _ _ w.if-font-eq0.false, and-false)
      | else-code-eq173-via-else-code-eq173 w ↦ rw (u, le-ltb _ _ c.if-code-lt32.false, ne_eqb _ _ w.if-code-eq173.false)
    ]
