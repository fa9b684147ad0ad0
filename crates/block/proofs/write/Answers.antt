use mathlib.Core.Path.{sym, ◌∙◌}
use Rattle.condition.proofs.Good.{Sized}
use Rattle.block.proofs.Sealing.{put-room}
use Rattle.block.proofs.Answers.{not-formed, no_room, written}
use borrow.Author.Rules.{rules}
use Rattle.block.proofs.write.Goals as goal
use Rattle.block.proofs.write.Goals.{Start}

sized : (c : Start) → Sized c.args.c
sized c = record { codes-40 = search rules; fonts-40 = search rules; users-96 = search rules; held-4 = search rules }

pub returns-then-not-well_formed : goal.returns-then-not-well_formed
returns-then-not-well_formed c = not-formed _ _ (sym c.well_formed-2.ensures ∙ c.if-not-well_formed.true)

pub returns-then-out-lt-LENGTH : goal.returns-then-out-lt-LENGTH
returns-then-out-lt-LENGTH c = no_room _ _ (sym c.well_formed-2.ensures ∙ c.if-not-well_formed.false) c.if-out-lt-LENGTH.true

pub returns : goal.returns
returns c =
    written _ _ _ (sized (goal.at.returns c).Start) (sym c.well_formed-2.ensures ∙ c.if-not-well_formed.false)
    c.if-out-lt-LENGTH.false (c.put.ensures ∙ put-room _ _ c.if-out-lt-LENGTH.false)
