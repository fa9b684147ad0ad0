use mathlib.Core.Path.{◌≡◌, sym, ap, ◌∙◌}
use native.Mathlib.Omega.{arith}
use lib.ListN.{length}
use lib.Seq.{take_all}
use Rattle.moves.specs.Ways.{path}
use Rattle.moves.specs.Kinds.{jump}
use Rattle.moves.proofs.Moving.{path-most}
use Rattle.moves.proofs.Four.{by-onward, by-sideways, by-start, by_jump}
use Rattle.moves.proofs.Put.{put_as, is-onward}
use borrow.Author.Rules.{rules}
use Rattle.moves.proofs.bytes.put_kind.Goals as goal

pub returns-then-onward-n : goal.returns-then-onward-n
returns-then-onward-n c =
    let a = c.args in
    put_as _ _ _ _ c.put_three.ensures
    (is-onward a.n a.from a.to (omega arith) (omega (arith, path-most a.from a.to))
    ∙ sym (by-onward a.from a.to (search rules) (search rules) (omega arith)))

pub put_sideways-requires : goal.put_sideways-requires
put_sideways-requires c =
    let a = c.args in
    (search rules, search rules, omega arith, omega (arith, path-most a.from a.to))

pub returns-then-sideways-n : goal.returns-then-sideways-n
returns-then-sideways-n c =
    let a = c.args in
    put_as _ _ _ _ c.put_sideways.ensures
    (sym (by-sideways a.from a.to (search rules) (search rules) (λ e. omega arith) (omega arith)))

pub put_from_start-requires : goal.put_from_start-requires
put_from_start-requires c =
    let a = c.args in
    (search rules, search rules, omega arith, omega (arith, path-most a.from a.to))

pub returns-then-from_start-n : goal.returns-then-from_start-n
returns-then-from_start-n c =
    let a = c.args in
    put_as _ _ _ _ c.put_from_start.ensures
    (sym (by-start a.from a.to (search rules) (search rules) (λ e. omega arith) (λ e. omega arith) (omega arith)))

pub returns-else-from_start-n : goal.returns-else-from_start-n
returns-else-from_start-n c =
    let a = c.args in
    let far : path a.from a.to ≡ jump a.to =
    by_jump a.from a.to (search rules) (search rules) (λ e. omega arith) (λ e. omega arith) (λ e. omega arith) in
    put_as _ _ _ _ c.put_three-else-from_start-n.ensures
    (take_all a.n (jump a.to) (omega (arith, ap length far)) ∙ sym far)
