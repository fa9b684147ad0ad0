use Rattle.inplace.proofs.InPlace.{release-by}
use borrow.Author.Rules.{rules}
use Rattle.inplace.proofs.fields.release.Goals as goal

pub returns : goal.returns
returns c = release-by c.args.s.now _ (search rules) (c.fill.ensures.after (λ y e. e))
