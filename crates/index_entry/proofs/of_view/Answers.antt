use mathlib.Core.Path.{refl, ap, ◌∙◌}
use Rattle.refusals.proofs.Laws.{number-in}
use Rattle.glass.specs.Answers.{Seen, seen}
use Rattle.index_entry.proofs.of_view.Goals as goal

pub returns : goal.returns
returns c = c.number.ensures ∙ number-in seen (λ a. a.refusal) (λ _. refl) (λ _. refl) _
    ∙ ap (λ (a : Seen). a.refusal) c.view.ensures
