use mathlib.Core.Path.{◌∙◌}
use borrow.Author.Rules.{rules}
use Rattle.row.proofs.Laws.{on-picture}
use Rattle.lounge.proofs.Lounge.clear_line.Goals as goal

pub returns : goal.returns
returns c =
    let k = c.args.self.now in
    rw (c.clear_line.ensures ∙ on-picture _ k.codes (search rules), c.clear_line-2.ensures ∙ on-picture _ k.marks (search rules))
