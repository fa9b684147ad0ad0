use mathlib.Core.Path.{◌≡◌, sym, ◌∙◌}
use Rattle.condition.specs.declared.Pending.TheVariants.{Nothing}
use Rattle.condition.specs.Bytes.{step_of}
use Rattle.condition.specs.Busy.{quick_figure}
use Rattle.layout.specs.Layout.{condition_in}
use Rattle.inplace.proofs.Branches.{half-received, half-step, half-quick, half-kept}
use Rattle.inplace.proofs.Altering.{unaltered}
use Rattle.inplace.proofs.run.parameter.Goals as goal
use Rattle.inplace.proofs.run.parameter.Goals.{After-alters}

some-half : (c : After-alters) → c.pending_in-half.result ≡ Nothing → ⊥
some-half c z = half-received _ _ _ c.requires.0 (sym c.pending_in-half.ensures ∙ z)

stepped : (c : After-alters) → condition_in c.continued.new.s ≡ step_of (condition_in c.args.s.now) c.args.b
stepped c = c.continued.ensures (some-half c) ∙ half-step _ _ _ c.pending_in-half.ensures

took : (c : After-alters) → c.continued_busy-figure.result ≡ quick_figure (condition_in c.args.s.now) c.args.b
took c = c.continued_busy-figure.ensures _ (some-half c) ∙ half-quick _ _ _ c.pending_in-half.ensures

pub returns-then-alters : goal.returns-then-alters
returns-then-alters c =
    let k = (goal.at.returns-then-alters c).After-alters in
    (stepped k, took k, c.reindex.ensures)

pub returns-else-alters : goal.returns-else-alters
returns-else-alters c =
    let k = (goal.at.returns-else-alters c).After-alters in (
      stepped k,
      took k,
      unaltered _ _ _ _ (sym (half-kept _ _ _ c.pending_in-half.ensures) ∙ sym c.alters.ensures ∙ c.if-alters.false)
          (stepped k) c.requires.1,
    )
