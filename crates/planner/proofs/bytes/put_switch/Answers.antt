use mathlib.Core.Path.{◌≡◌, ap, ◌∙◌}
use mathlib.Core.List.{[], ◌∷◌}
use native.Mathlib.Numerals.{add-one}
use native.Mathlib.Omega.{arith}
use lib.ListN.{length, length-set}
use Rattle.planner.specs.Fonts.{switch}
use Rattle.planner.proofs.Costs.{switch-same, switch-katakana, switch-international, back_some}
use Rattle.planner.proofs.bytes.put_switch.Goals as goal
use Rattle.planner.proofs.bytes.put_switch.Goals.{Else-euro, Then-euro, Then-from-to, Then-to-eq1}

-- the bytes on each way out
same : (c : Then-from-to) → switch c.args.euro c.args.from c.args.to ≡ []
same c = switch-same _ _ _ c.if-from-to.true

katakana : (c : Then-to-eq1)
    → switch c.args.euro c.args.from c.args.to ≡ 0x19 ∷ []
katakana c = switch-katakana _ _ _ c.if-from-to.false c.if-to-eq1.true

marked : (c : Then-euro)
    → switch c.args.euro c.args.from c.args.to
    ≡ 0x18 ∷ 0x1a ∷ []
marked c = switch-international _ _ _ c.if-from-to.false c.if-to-eq1.false ∙ rw c.if-euro.true

unmarked : (c : Else-euro)
    → switch c.args.euro c.args.from c.args.to
    ≡ 0x18 ∷ []
unmarked c = switch-international _ _ _ c.if-from-to.false c.if-to-eq1.false ∙ rw c.if-euro.false

pub returns-then-from-to : goal.returns-then-from-to
returns-then-from-to c = (omega (arith, ap length (same c)), rw (same c))

pub bounds-out-k : goal.bounds-out-k
bounds-out-k c = omega (arith, ap length (katakana c))

pub returns-then-to-eq1 : goal.returns-then-to-eq1
returns-then-to-eq1 c = (omega (arith, ap length (katakana c)), rw (katakana c))

pub bounds-out-k-2 : goal.bounds-out-k-2
bounds-out-k-2 c =
    let euro = c.args.euro in
    omega (arith, ap length (switch-international euro _ _ c.if-from-to.false c.if-to-eq1.false), back_some euro)

pub bounds-out-k-then-euro : goal.bounds-out-k-then-euro
bounds-out-k-then-euro c = simp length-set (omega (arith, ap length (marked c)))

pub returns-then-euro : goal.returns-then-euro
returns-then-euro c = (omega (arith, ap length (marked c)), rw (marked c, add-one c.args.k))

pub returns : goal.returns
returns c = (omega (arith, ap length (unmarked c)), rw (unmarked c))
