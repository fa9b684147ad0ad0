use Rattle.row.proofs.Laws.{advance-law, advance-short}
use borrow.Author.Rules.{rules}
use Rattle.row.proofs.advance.Goals as goal

pub returns-then-by-bytes : goal.returns-then-by-bytes
returns-then-by-bytes c =
    let a = c.args in
    rw c.copy_within.ensures.after (advance-law a.bytes.now a.by (search rules))

pub returns-else-by-bytes : goal.returns-else-by-bytes
returns-else-by-bytes c = advance-short _ _ c.if-by-bytes.false
