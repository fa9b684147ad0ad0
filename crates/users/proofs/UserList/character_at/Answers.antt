use Rattle.users.specs.Users.{character_at}
use borrow.Author.Tests.{le-leb, lt-leb}
use Rattle.users.proofs.UserList.character_at.Goals as goal

pub returns-then-self-place : goal.returns-then-self-place
unfolding character_at
returns-then-self-place c = rw (le-leb _ _ c.if-self-place.true)

pub returns : goal.returns
unfolding character_at
returns c = rw (lt-leb _ _ c.if-self-place.false)
