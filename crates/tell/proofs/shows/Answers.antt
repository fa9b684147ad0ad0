use Rattle.lines.proofs.Laws.{both-adds}
use Rattle.tell.specs.Report.{shows_text}
use Rattle.tell.proofs.shows.Goals as goal

pub returns-in-Blank : goal.returns-in-Blank
unfolding shows_text
returns-in-Blank c = rw c.in-Blank.is c.word.ensures

pub returns-in-User : goal.returns-in-User
unfolding shows_text
returns-in-User c = rw c.in-User.is c.hex.ensures

pub returns-in-Euro : goal.returns-in-Euro
unfolding shows_text
returns-in-Euro c = rw c.in-Euro.is c.word-in-Euro.ensures

pub returns-in-BuiltIn : goal.returns-in-BuiltIn
unfolding shows_text
returns-in-BuiltIn c =
    let coded = both-adds c.hex-in-BuiltIn.ensures c.number.ensures in
    rw c.in-BuiltIn.is coded
