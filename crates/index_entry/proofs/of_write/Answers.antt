use mathlib.Core.Path.{refl, ap, ◌∙◌}
use Rattle.refusals.proofs.Laws.{number-in}
use Rattle.block.specs.Writing.{Written, written, write_answer}
use Rattle.index_entry.proofs.of_write.Goals as goal

pub returns : goal.returns
unfolding write_answer
returns c =
    c.number.ensures ∙ number-in written (λ a. a.refusal) (λ _. refl) (λ _. refl) _
    ∙ ap (λ (a : Written). a.refusal) c.write.ensures.answer
