use Prim.Native.Nat.{◌*◌}
use native.Mathlib.Omega.{arith}
use mathlib.Core.Path.{◌≡◌, sym, ◌∙◌}
use mathlib.Core.Bool.{cond}
use lib.Dec.{ltb}
use lib.ListN.{length}
use borrow.Author.Tests.{le-leb, lt-leb}
use Rattle.reel.specs.Reel.{whole_refusal}
use Rattle.reel.proofs.Turns.{short, enough, start-unformed}
use Rattle.reel.proofs.check_whole.Goals as goal
use Rattle.reel.proofs.check_whole.Goals.{Else-not-is_well_formed}

pub returns-then-not-matched : goal.returns-then-not-matched
unfolding whole_refusal
returns-then-not-matched c = let f = c.matched in rw (← f.ensures, c.if-not-matched.true)

-- more than 64
pub returns-then-n-gt-MOST : goal.returns-then-n-gt-MOST
unfolding whole_refusal
returns-then-n-gt-MOST c =
    let f = c.matched in
    let a = c.args in
    rw (← f.ensures, c.if-not-matched.false, lt-leb (length a.cursors.now) 64 (omega (arith, c.if-n-gt-MOST.true)))

pub returns-then-not-is_well_formed : goal.returns-then-not-is_well_formed
returns-then-not-is_well_formed c =
    let f = c.matched in
    let w = c.is_well_formed in
    sym (start-unformed _ _ _ _ (sym f.ensures ∙ c.if-not-matched.false) (sym w.ensures ∙ c.if-not-is_well_formed.true))

-- where neither 1 nor 3 holds, the room decides
room-decides : (e : Else-not-is_well_formed) → (let a = e.args in
    whole_refusal a.c.now a.codes.now a.cursors.now a.room ≡ cond (ltb a.room (44 * length a.cursors.now)) 10 0)
unfolding whole_refusal
room-decides e =
    let f = e.matched in
    let w = e.is_well_formed in
    let a = e.args in
    rw (
      ← f.ensures,
      e.if-not-matched.false,
      le-leb (length a.cursors.now) 64 (omega (arith, e.if-n-gt-MOST.false)),
      ← w.ensures,
      e.if-not-is_well_formed.false,
    )

pub returns-then-room-n : goal.returns-then-room-n
returns-then-room-n c = sym (room-decides (goal.at.returns-then-room-n c).Else-not-is_well_formed ∙ rw (short _ _ c.if-room-n.true))

pub returns : goal.returns
returns c = sym (room-decides (goal.at.returns c).Else-not-is_well_formed ∙ rw (enough _ _ c.if-room-n.false))
