use Rattle.lounge.proofs.Back.{whole-in}
use borrow.Author.Rules.{rules}
use Rattle.lounge.proofs.heads.whole.Goals as goal

pub returns : goal.returns
returns c = whole-in _ _ _ _ _ (search rules) c.pending_in.ensures
