use Rattle.glass.specs.Answers.{lit_answer}
use Rattle.glass.proofs.lit.Goals as goal

pub returns-in_default : goal.returns-in_default
unfolding lit_answer
returns-in_default c = rw (← c.lookup.ensures, c.in_default.is)

pub returns : goal.returns
unfolding lit_answer
returns c =
    rw (← c.lookup.ensures, c.in-Some.is, c.lit.ensures, c.character_at.ensures, c.list.ensures.0)
