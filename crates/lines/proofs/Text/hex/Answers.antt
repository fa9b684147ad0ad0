use Rattle.lines.proofs.Laws.{both-adds}
use Rattle.lines.proofs.Text.hex.Goals as goal

pub returns : goal.returns
returns c = both-adds c.word.ensures (rw (c.hex_digit.ensures, c.hex_digit-2.ensures) at c.word-2.ensures)
