use mathlib.Core.Path.{ap, ◌∙◌}
use Rattle.planner.specs.Answer.{on_move, plan_refusal}
use Rattle.planner.proofs.Wanted.{at-list}
use Rattle.planner.proofs.checks.check_plan.Goals as goal

pub returns : goal.returns
unfolding plan_refusal
returns c = c.check.ensures ∙ rw (c.on_move.ensures ∙ ap on_move (at-list c.args.c.now.users _ _ c.list.ensures))
