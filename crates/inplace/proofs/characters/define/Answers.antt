use Rattle.inplace.proofs.InPlace.{define-by}
use borrow.Author.Rules.{rules}
use Rattle.inplace.proofs.characters.define.Goals as goal

pub returns : goal.returns
returns c =
    let a = c.args in
    define-by a.s.now _ _ a.code a.last (search rules) (search rules) (search rules) c.define.ensures
