use borrow.Author.Rules.{rules}
use Rattle.lounge_entry.proofs.shows_number.Goals as goal

pub returns-in-User : goal.returns-in-User
returns-in-User c = (rw (c.from.ensures, c.in-User.is), search rules)

pub returns-in-BuiltIn : goal.returns-in-BuiltIn
returns-in-BuiltIn c = (rw (c.from-in-BuiltIn.ensures, c.in-BuiltIn.is), search rules)
