use borrow.Author.Tests.{eq-eqb, ne_eqb}
use Rattle.lounge.specs.Pairs.{step_of}
use Rattle.lounge.proofs.Lounge.step.Goals as goal

pub returns-then-kind-eq-COMMAND : goal.returns-then-kind-eq-COMMAND
unfolding step_of
returns-then-kind-eq-COMMAND c = rw (c.command.ensures, eq-eqb _ _ c.if-kind-eq-COMMAND.true)

pub returns-else-kind-eq-COMMAND : goal.returns-else-kind-eq-COMMAND
unfolding step_of
returns-else-kind-eq-COMMAND c = rw (c.data.ensures, ne_eqb _ _ c.if-kind-eq-COMMAND.false)
