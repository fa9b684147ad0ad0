use mathlib.Core.Path.{refl, ap, ◌∙◌}
use Prim.Native.Nat.{ℕ}
use native.Mathlib.Omega.{arith}
use lib.ListN.{replicate}
use Rattle.reel.specs.Reel.{Stop}
use Rattle.sign.specs.Calls.{reel_number}
use Rattle.sign.proofs.Reels.{reel-short, reel-done}
use Rattle.row.proofs.Laws.{filled}
use borrow.Author.Rules.{rules}
use Rattle.sign.proofs.sign_reel.Goals as goal

pub returns-then-lengths-ne-MOST : goal.returns-then-lengths-ne-MOST
returns-then-lengths-ne-MOST c =
    reel-short _ _ _ _ _ (λ z. omega (arith, z, c.if-lengths-ne-MOST.true)) _
    (c.stop_number.ensures ∙ ap (λ (s : Stop). reel_number s 0) c.from.ensures)

pub returns-in-Ok : goal.returns-in-Ok
unfolding reel_number
returns-in-Ok c =
    let room = c.if-lengths-ne-MOST.false in
    reel-done _ _ _ _ _ room _ _ _ _ c.in-Ok.ensures (c.copy.ensures ∙ filled _ _ 64 (search rules) room) refl

pub returns-in-Err : goal.returns-in-Err
returns-in-Err c =
    let h = c.if-lengths-ne-MOST.false in
    reel-done _ _ _ _ _ h _ _ _ _ c.in-Err.ensures (c.fill.ensures.after (λ y e. e) ∙ ap (λ (n : ℕ). replicate n 0) h)
    c.stop_number-in-Err.ensures
