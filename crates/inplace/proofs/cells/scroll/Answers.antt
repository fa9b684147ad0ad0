use lib.ListN.{get_or}
use Rattle.row.specs.Row.{scrolled}
use Rattle.condition.specs.Bytes.{scroll_of}
use Rattle.layout.specs.Layout.{condition_in}
use Rattle.inplace.proofs.InPlace.{pictures-by}
use borrow.Author.Rules.{rules}
use Rattle.inplace.proofs.cells.scroll.Goals as goal

pub returns : goal.returns
unfolding condition_in scroll_of
returns c =
    let s = c.args.s.now in
    pictures-by (scrolled 0x20) (scrolled (get_or s 7 0)) s _ _
    (search rules) (search rules) (search rules)
    c.scroll.ensures c.scroll-2.ensures
