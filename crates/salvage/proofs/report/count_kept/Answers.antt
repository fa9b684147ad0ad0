use mathlib.Core.Path.{◌≡◌, refl, ◌∙◌}
use mathlib.Core.Bool.{Bool, true, false}
use native.Mathlib.Omega.{arith}
use mir.Val.{bool_byte}
use Rattle.laws.specs.Flags.{flag}
use Rattle.salvage.specs.Salvage.{count_of}
use Rattle.salvage.proofs.Telling.{count_next}
use borrow.Author.Rules.{rules}
use Rattle.salvage.proofs.report.count_kept.Goals as goal

byte-flag : (t : Bool) → bool_byte t ≡ flag t
byte-flag true = refl
byte-flag false = refl

pub loop-i-init : goal.loop-i-init
unfolding count_of
loop-i-init c = (omega arith, refl)

pub loop-i-preserved : goal.loop-i-preserved
loop-i-preserved c =
    (search rules, count_next _ c.loop-i.i _ _ c.loop-i.invariant.1 (c.from-kept.ensures ∙ byte-flag _))
