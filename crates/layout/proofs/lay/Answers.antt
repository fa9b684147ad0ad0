use Rattle.layout.proofs.Parts.{four-parts}
use borrow.Author.Rules.{rules}
use Rattle.layout.proofs.lay.Goals as goal

pub returns : goal.returns
returns c =
    let a = c.args in
    rw (
      c.copy.ensures,
      c.copy-2.ensures,
      c.copy-3.ensures,
      c.copy-4.ensures,
    )
    (four-parts a.s.now a.first.now a.c.now.codes a.c.now.fonts a.c.now.users.bytes c.told-s (search rules) (search rules)
    (search rules))
