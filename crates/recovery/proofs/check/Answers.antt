use mathlib.Core.Path.{sym, ◌∙◌}
use borrow.Author.Tests.{lt-ltb, le-ltb}
use Rattle.recovery.specs.Recovery.{recover_refusal}
use Rattle.recovery.proofs.check.Goals as goal

pub returns-then-not-is_well_formed : goal.returns-then-not-is_well_formed
unfolding recover_refusal
returns-then-not-is_well_formed c = rw (sym c.is_well_formed.ensures ∙ c.if-not-is_well_formed.true)

pub returns-then-is_lost : goal.returns-then-is_lost
unfolding recover_refusal
returns-then-is_lost c = rw (
  sym c.is_well_formed.ensures ∙ c.if-not-is_well_formed.false,
  sym c.is_lost.ensures ∙ c.if-is_lost.true,
)

pub returns-then-room-lt-ROOM : goal.returns-then-room-lt-ROOM
unfolding recover_refusal
returns-then-room-lt-ROOM c = rw (
  sym c.is_well_formed.ensures ∙ c.if-not-is_well_formed.false,
  sym c.is_lost.ensures ∙ c.if-is_lost.false,
  lt-ltb _ _ c.if-room-lt-ROOM.true,
)

pub returns : goal.returns
unfolding recover_refusal
returns c = rw (
  sym c.is_well_formed.ensures ∙ c.if-not-is_well_formed.false,
  sym c.is_lost.ensures ∙ c.if-is_lost.false,
  le-ltb _ _ c.if-room-lt-ROOM.false,
)
