use native.Mathlib.Omega.{arith}
use Rattle.questions.proofs.shows_number.Goals as goal

pub returns-in-User : goal.returns-in-User
returns-in-User c = rw c.in-User.is (omega arith)

pub returns-in-BuiltIn : goal.returns-in-BuiltIn
returns-in-BuiltIn c = rw (c.built_in_number.ensures, c.in-BuiltIn.is)
