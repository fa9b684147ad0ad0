use Rattle.glass.specs.Answers.{underline_answer}
use Rattle.glass.proofs.underline.Goals as goal

pub returns-in_default : goal.returns-in_default
unfolding underline_answer
returns-in_default c = rw (← c.lookup.ensures, c.in_default.is)

pub returns : goal.returns
unfolding underline_answer
returns c =
    rw (← c.lookup.ensures, c.in-Some.is, c.underline.ensures, c.character_at.ensures, c.list.ensures.0)
