use Rattle.inplace.proofs.InPlace.{blank-by}
use borrow.Author.Rules.{rules}
use Rattle.inplace.proofs.cells.blank.Goals as goal

pub returns : goal.returns
returns c =
    let a = c.args in
    blank-by a.s.now _ _ a.font (search rules) (search rules) (search rules)
    (c.fill.ensures.after (λ y e. e)) (c.fill-2.ensures.after (λ y e. e))
