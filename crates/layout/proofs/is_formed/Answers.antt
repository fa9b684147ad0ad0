use mathlib.Core.Path.{sym, ap, ◌∙◌}
use Rattle.condition.specs.Condition.{well_formed}
use native.Mathlib.Omega.{arith}
use Rattle.condition.proofs.Kept.{power-up-good}
use Rattle.layout.proofs.PackedBack.{first-enough, too_few}
use Rattle.layout.proofs.is_formed.Goals as goal

pub returns-in-None : goal.returns-in-None
returns-in-None c = sym (ap well_formed (too_few _ c.in-None.ensures.cases) ∙ power-up-good 0 (omega arith))

pub returns-in-Some : goal.returns-in-Some
returns-in-Some c =
    let first = c.in-Some.ensures.cases in
    c.formed_in.ensures ∙ ap well_formed (first-enough c.args.s.now c.in-Some.first.now first.enough first.same)
