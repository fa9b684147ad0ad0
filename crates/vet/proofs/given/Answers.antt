use Rattle.vet.specs.Line.{verdict_line}
use Rattle.vet.proofs.given.Goals as goal

pub returns-in-Byte : goal.returns-in-Byte
unfolding verdict_line
returns-in-Byte c = rw c.in-Byte.is c.line.ensures

pub returns-in-Cell : goal.returns-in-Cell
unfolding verdict_line
returns-in-Cell c = rw c.in-Cell.is c.line-in-Cell.ensures

pub returns-in-Cursor : goal.returns-in-Cursor
unfolding verdict_line
returns-in-Cursor c = rw c.in-Cursor.is c.word.ensures

pub returns-in-Yes : goal.returns-in-Yes
unfolding verdict_line
returns-in-Yes c = rw c.in-Yes.is c.line-in-Yes.ensures
