use native.Mathlib.Omega.{arith}
use Rattle.moves.proofs.Put.{put_as, is-start, to-top, to-bottom-down, to-bottom}
use borrow.Author.Rules.{rules}
use Rattle.moves.proofs.bytes.put_from_start.Goals as goal

pub returns-then-to-lt-COLUMNS : goal.returns-then-to-lt-COLUMNS
returns-then-to-lt-COLUMNS c =
    let a = c.args in
    put_as _ _ _ _ c.put_three.ensures
    (is-start a.n a.from a.to 2 _ (to-top a.from a.to (omega arith)) (search rules) (search rules))

pub returns-then-from-lt-COLUMNS : goal.returns-then-from-lt-COLUMNS
returns-then-from-lt-COLUMNS c =
    let a = c.args in
    put_as _ _ _ _ c.put_three-then-from-lt-COLUMNS.ensures
    (is-start a.n a.from a.to 1 _ (to-bottom-down a.from a.to (omega arith) (omega arith)) (search rules)
    (search rules))

pub returns-else-from-lt-COLUMNS : goal.returns-else-from-lt-COLUMNS
returns-else-from-lt-COLUMNS c =
    let a = c.args in
    put_as _ _ _ _ c.put_three-else-from-lt-COLUMNS.ensures
    (is-start a.n a.from a.to 2 _ (to-bottom a.from a.to (omega arith) (omega arith)) (search rules) (search rules))
