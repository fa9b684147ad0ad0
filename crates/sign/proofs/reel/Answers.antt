use mathlib.Core.Path.{refl, sym, ◌∙◌}
use Rattle.std.proofs.lemmas.Result.{err_from_is_err_and}
use Rattle.refusals.proofs.Laws.{numbered}
use Rattle.sign.proofs.Reels.{reel-unmatched, reel-damaged, reel-in}
use Rattle.sign.proofs.reel.Goals as goal

pub returns-then-not-matched : goal.returns-then-not-matched
returns-then-not-matched c =
    let e = sym c.matched.ensures ∙ c.if-not-matched.true in
    reel-unmatched _ _ _ _ e _ c.from.ensures _ refl

pub returns-in_err-start : goal.returns-in_err-start
returns-in_err-start c =
    let e = sym c.matched.ensures ∙ c.if-not-matched.false in
    let p = err_from_is_err_and c.from_residual.result c.from_residual.ensures.1 in
    rw p.1 (reel-damaged _ _ _ _ e _ c.in_err-start.ensures (numbered _) _ p.2 _ refl)

pub returns : goal.returns
returns c =
    let e = sym c.matched.ensures ∙ c.if-not-matched.false in
    reel-in _ _ _ _ e _ c.in_ok-start.ensures refl _ _ c.reel.ensures
