use native.Mathlib.Omega.{arith}
use mathlib.Core.Path.{sym, ◌∙◌}
use mathlib.Core.Logic.{⊎_elim}
use Rattle.moves.proofs.Rule.{fewest, fewest-is, fewest-self, fewest-next, fewest-none-from, fewest-none-to}
use Rattle.moves.proofs.number.Goals as goal

pub returns-then-from-to : goal.returns-then-from-to
returns-then-from-to c =
    fewest _ _ _
    (⊎_elim (λ e. sym (fewest-self _ _ e))
    (λ h. ⊎_elim (λ f. sym (fewest-none-from _ _ (omega (arith, f)))) (λ t. sym (fewest-none-to _ _ (omega (arith, t)))) h)
    c.then-from-to.either)

pub returns-then-to-from : goal.returns-then-to-from
returns-then-to-from c = fewest _ _ _ (sym (fewest-next _ _ (omega arith) (omega arith)))

pub returns : goal.returns
returns c = fewest _ _ _ (c.least_of_four.ensures ∙ sym (fewest-is _ _ (omega arith) (omega arith)))
