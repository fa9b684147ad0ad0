use Prim.Native.Nat.{ℕ}
use mathlib.Core.Path.{◌≡◌, sym, ◌∙◌}
use mathlib.Core.Bool.{or-true, or-false, ◌||◌}
use lib.Dec.{eqb}
use Rattle.laws.proofs.Tests.{by_cases}
use Rattle.lounge.specs.declared.Lounge.{Lounge}
use Rattle.lounge.specs.Set.{with_dimming}
use Rattle.lounge.specs.Pairs.{area_of, dimmed_by}
use Rattle.lounge.proofs.Lounge.area.Goals as goal

-- 17h turns dimming on
dims : (area : ℕ) (c : Lounge) → with_dimming c (c.dimming || eqb area 0x17) ≡ dimmed_by area c
unfolding dimmed_by
dims area c = by_cases (eqb area 0x17) (λ e. rw (e, or-true c.dimming)) (λ e. rw (e, or-false c.dimming))

pub returns-then-is_pair : goal.returns-then-is_pair
unfolding area_of
returns-then-is_pair c =
    rw (c.mark.ensures, c.mark_of.ensures, sym c.is_pair.ensures ∙ c.if-is_pair.true) (dims c.args.code _)

pub returns-else-is_pair : goal.returns-else-is_pair
unfolding area_of
returns-else-is_pair c = rw (sym c.is_pair.ensures ∙ c.if-is_pair.false)
