use mathlib.Core.Path.{refl, sym, ◌∙◌}
use borrow.Author.Rules.{rules}
use Rattle.refusals.proofs.Laws.{numbered}
use Rattle.reel.proofs.Turns.{from_start, goes-on, stops, none-stops}
use Rattle.reel.proofs.check_pictures.Goals as goal

pub loop-k-init : goal.loop-k-init
loop-k-init c =
    from_start _ _ (record { codes-40 = search rules; fonts-40 = search rules; users-96 = search rules; held-4 = search rules })

pub loop-k-preserved : goal.loop-k-preserved
loop-k-preserved c =
    c.loop-k.invariant
    ∙ goes-on _ _ _ _ 0 c.loop-k-test.true _ c.codes_of-wanted.ensures (rw (← c.from.ensures) c.in_default.ensures) refl

pub returns-in-Some : goal.returns-in-Some
returns-in-Some c =
    sym (c.loop-k.invariant
    ∙ stops _ _ _ _ _ c.loop-k-test.true _ c.codes_of-wanted.ensures (rw (← c.from.ensures) c.in-Some.ensures)
    (numbered c.in-Some.refusal))

pub returns : goal.returns
returns c = sym (c.loop-k.invariant ∙ none-stops _ _ _ _ c.loop-k-test.false)
