use Rattle.inplace.proofs.InPlace.{hold-in}
use borrow.Author.Rules.{rules}
use Rattle.inplace.proofs.fields.hold.Goals as goal

pub returns : goal.returns
returns c = search (hold-in, rules)
