use mathlib.Core.Path.{◌∙◌}
use native.Mathlib.Omega.{arith}
use Rattle.moves.proofs.Four.{sideways-across}
use Rattle.moves.proofs.Put.{put_as, is_within, put-across}
use borrow.Author.Rules.{rules}
use Rattle.moves.proofs.bytes.put_sideways.Goals as goal

pub overflow_sub-n : goal.overflow_sub-n
overflow_sub-n c =
    let a = c.args in
    omega (arith, sideways-across a.from a.to (search rules) (search rules) (λ e. omega arith))

pub returns-then-line : goal.returns-then-line
returns-then-line c =
    let a = c.args in
    let across = sideways-across a.from a.to (search rules) (search rules) (λ e. omega arith) in
    c.put.ensures
    ∙ rw c.put_three.ensures
    (put-across _ a.n _ a.from a.to _ c.aside-m.ensures (search rules) (search rules)
    (omega (arith, across)) (search rules) (search rules) (λ e. omega arith))

pub returns-else-line : goal.returns-else-line
returns-else-line c =
    let a = c.args in
    put_as _ _ _ _ c.put_three.ensures
    (is_within a.n _ a.from a.to c.aside-m.ensures (search rules) (search rules) (omega arith))
