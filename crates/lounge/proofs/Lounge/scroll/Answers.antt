use mathlib.Core.Path.{◌∙◌}
use borrow.Author.Rules.{rules}
use Rattle.row.proofs.Laws.{on-picture}
use Rattle.lounge.specs.Pairs.{scroll_of}
use Rattle.lounge.proofs.Lounge.scroll.Goals as goal

pub returns : goal.returns
unfolding scroll_of
returns c =
    let k = c.args.self.now in
    rw (c.scroll.ensures ∙ on-picture _ k.codes (search rules), c.scroll-2.ensures ∙ on-picture _ k.marks (search rules))
