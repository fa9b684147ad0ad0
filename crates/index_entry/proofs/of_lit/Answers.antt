use mathlib.Core.Path.{refl, ap, ◌∙◌}
use Rattle.refusals.proofs.Laws.{number-in}
use Rattle.glass.specs.Answers.{Answer, answer}
use Rattle.index_entry.proofs.of_lit.Goals as goal

pub returns : goal.returns
returns c = c.number.ensures ∙ number-in answer (λ a. a.refusal) (λ _. refl) (λ _. refl) _
    ∙ ap (λ (a : Answer). a.refusal) c.lit.ensures
