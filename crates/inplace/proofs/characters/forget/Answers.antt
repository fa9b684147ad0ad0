use Rattle.inplace.proofs.InPlace.{forget-by}
use borrow.Author.Rules.{rules}
use Rattle.inplace.proofs.characters.forget.Goals as goal

pub returns : goal.returns
returns c = forget-by c.args.s.now _ (search rules) (search rules) (c.fill.ensures.after (λ y e. e))
