use mathlib.Core.Path.{refl, ap, ◌∙◌}
use Rattle.refusals.proofs.Laws.{number-in}
use Rattle.planner.specs.Answer.{Planned, planned}
use Rattle.index_entry.proofs.of_recover.Goals as goal

pub returns : goal.returns
returns c = c.number.ensures ∙ number-in planned (λ a. a.refusal) (λ _. refl) (λ _. refl) _
    ∙ ap (λ (a : Planned). a.refusal) c.recover.ensures.gives.answer
