use Prim.Native.Nat.{◌+◌, ◌-◌, ◌*◌}
use mathlib.Core.Path.{◌≡◌, refl, ◌∙◌}
use native.Mathlib.Omega.{arith}
use Rattle.users.proofs.Removal.{remove-turn, remove-law}
use borrow.Author.Rules.{rules}
use Rattle.users.proofs.remove.Goals as goal

pub loop-i-init : goal.loop-i-init
loop-i-init c = (search rules, refl, refl, search rules)

pub loop-i-preserved : goal.loop-i-preserved
loop-i-preserved c =
    let l = c.loop-i in
    let a = c.args in
    let n = l.i * 6 + 12 - l.i * 6 in (
      omega arith,
      remove-turn l.bytes l.i a.youngest (omega arith) _ n (omega arith) (omega arith)
          c.advance.ensures
          ∙ l.invariant.1,
      search rules,
      l.invariant.3,
    )

pub returns : goal.returns
returns c =
    let l = c.loop-i in
    let a = c.args in
    let e : l.i ≡ a.youngest = omega arith in
    let n = a.youngest * 6 + 6 - a.youngest * 6 in
    remove-law l.bytes a.youngest a.youngest (omega arith) _ n (omega arith) refl c.clear.ensures
    ∙ rw e at l.invariant.1
