use Rattle.laws.proofs.Tests.{tests}
use Rattle.index_entry.specs.Entry.{call_refusal}
use Rattle.index_entry.proofs.of_call.Goals as goal

pub returns-in-0 : goal.returns-in-0
unfolding call_refusal
returns-in-0 c = rw (c.of_run.ensures, c.in-0.is)

pub returns-in-1 : goal.returns-in-1
unfolding call_refusal
returns-in-1 c = rw (c.of_plan.ensures, c.in-1.is)

pub returns-in-2 : goal.returns-in-2
unfolding call_refusal
returns-in-2 c = rw (c.of_fonts.ensures, c.in-2.is)

pub returns-in-3 : goal.returns-in-3
unfolding call_refusal
returns-in-3 c = rw (c.of_reel.ensures, c.in-3.is)

pub returns-in-4 : goal.returns-in-4
unfolding call_refusal
returns-in-4 c = rw (c.of_recover.ensures, c.in-4.is)

pub returns-in-5 : goal.returns-in-5
unfolding call_refusal
returns-in-5 c = rw (c.of_write.ensures, c.in-5.is)

pub returns-in-6 : goal.returns-in-6
unfolding call_refusal
returns-in-6 c = rw (c.of_view.ensures, c.in-6.is)

pub returns-in-7 : goal.returns-in-7
unfolding call_refusal
returns-in-7 c = rw (c.of_dot.ensures, c.from-code.ensures, c.in-7.is)

pub returns-in-8 : goal.returns-in-8
unfolding call_refusal
returns-in-8 c = rw (c.of_underline.ensures, c.from-code.ensures, c.in-8.is)

pub returns-in_default : goal.returns-in_default
unfolding call_refusal
returns-in_default c =
    rw (c.of_lit.ensures, c.from-code.ensures) (search (tests, c.in_default))
