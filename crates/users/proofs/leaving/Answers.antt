use mathlib.Core.Path.{sym, ◌∙◌}
use borrow.Author.Tests.{lt-ltb, le-ltb}
use Rattle.users.proofs.leaving.Goals as goal

pub returns-in-Some : goal.returns-in-Some
returns-in-Some c = rw (sym c.find.ensures ∙ c.in-Some.is)

pub returns-then-limit-room : goal.returns-then-limit-room
returns-then-limit-room c =
    let none = sym c.find.ensures ∙ c.in_default.is in
    rw (none, ← c.limit.ensures.0, ← c.room.ensures, lt-ltb _ _ c.if-limit-room.true)

pub returns-else-limit-room : goal.returns-else-limit-room
returns-else-limit-room c =
    let none = sym c.find.ensures ∙ c.in_default.is in
    rw (none, ← c.limit.ensures.0, ← c.room.ensures, le-ltb _ _ c.if-limit-room.false)
