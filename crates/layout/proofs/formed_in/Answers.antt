use mathlib.Core.Path.{◌∙◌}
use Rattle.layout.specs.Layout.{condition_in}
use Rattle.condition.proofs.Rows.{rows-law, indexed-formed}
use Rattle.layout.proofs.PackedBack.{sized-in, indexed-in}
use borrow.Author.Rules.{rules}
use Rattle.layout.proofs.formed_in.Goals as goal

pub returns : goal.returns
unfolding condition_in
returns c =
    let s = c.args.s.now in
    let z = sized-in s (search rules) in
    rw (c.rows_good.ensures, c.numbers_in.ensures, c.pending_in-pending.ensures)
    (rows-law (condition_in s) z.fonts-40 z.users-96 z.held-4 ∙ indexed-formed (condition_in s) (indexed-in s))
