use Rattle.dots.proofs.Ones.{lit-law}
use borrow.Author.Rules.{rules}
use Rattle.dots.proofs.lit.Goals as goal

pub returns : goal.returns
returns c = lit-law c.args.d (search rules) (search rules) (search rules) (search rules)
