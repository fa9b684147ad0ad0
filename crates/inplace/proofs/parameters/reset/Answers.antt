use Rattle.inplace.proofs.InPlace.{reset-in}
use borrow.Author.Rules.{rules}
use Rattle.inplace.proofs.parameters.reset.Goals as goal

pub returns : goal.returns
returns c =
    let a = c.args in
    rw c.copy_from_slice.ensures.after (reset-in a.s.now a.link (search rules))
