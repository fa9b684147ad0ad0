use mathlib.Core.Path.{sym, ap, ◌∙◌}
use Rattle.reel.specs.Reel.{Reeled, reeled}
use Rattle.index_entry.proofs.of_reel.Goals as goal

pub returns-in-Ok : goal.returns-in-Ok
returns-in-Ok c = ap (λ (r : Reeled). r.stop.refusal) (sym (ap reeled c.in-Ok.is) ∙ c.reel.ensures.answer)

pub returns-in-Err : goal.returns-in-Err
returns-in-Err c = c.into.ensures ∙ ap (λ (r : Reeled). r.stop.refusal) (sym (ap reeled c.in-Err.is) ∙ c.reel.ensures.answer)
