use mathlib.Core.Path.{sym, ◌∙◌}
use Rattle.layout.proofs.PackedBack.{first-enough, too_few}
use Rattle.layout.proofs.unpacked.Goals as goal

pub returns-in-None : goal.returns-in-None
returns-in-None c = c.powered.ensures ∙ sym (too_few _ c.in-None.ensures.cases)

pub returns-in-Some : goal.returns-in-Some
returns-in-Some c =
    let first = c.in-Some.ensures.cases in
    c.unpack.ensures ∙ first-enough c.args.s.now c.in-Some.first.now first.enough first.same
