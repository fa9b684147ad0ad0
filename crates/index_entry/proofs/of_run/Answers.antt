use mathlib.Core.Path.{refl, ap, ◌∙◌}
use mathlib.Core.List.{[]}
use Rattle.refusals.proofs.Laws.{number-in}
use Rattle.interpreter.specs.Run.{Ran, ran}
use Rattle.index_entry.proofs.of_run.Goals as goal

pub returns : goal.returns
returns c =
    c.number.ensures ∙ number-in (ran c.args.c c.zero.result) (λ a. a.refusal) (λ _. refl) (λ _. refl) _
    ∙ ap (λ (a : Ran). a.refusal) c.run.ensures.answer ∙ rw c.zero.ensures
