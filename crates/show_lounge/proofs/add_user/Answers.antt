use Rattle.lines.proofs.Laws.{both-adds}
use Rattle.show_lounge.proofs.add_user.Goals as goal

pub returns : goal.returns
returns c = both-adds c.word.ensures c.codes.ensures
