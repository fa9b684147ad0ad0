use mathlib.Core.Path.{sym, ◌∙◌}
use borrow.Author.Tests.{eqb-true, eqb-false}
use Rattle.show_lounge.specs.Rest.{more_of}
use Rattle.show_lounge.proofs.Laws.{keeps, some-first, none-first}
use Rattle.show_lounge.proofs.more.Goals as goal

pub returns-then-is_empty : goal.returns-then-is_empty
returns-then-is_empty c =
    let z = eqb-true _ 0 (sym c.is_empty.ensures ∙ c.if-is_empty.true) in
    keeps _ _ _ (rw c.in-None.is (none-first c.args.piece.now z))

pub returns-else-is_empty : goal.returns-else-is_empty
unfolding more_of
returns-else-is_empty c =
    let z = eqb-false _ 0 (sym c.is_empty.ensures ∙ c.if-is_empty.false) in
    keeps _ _ _ (rw (c.in-None.is, c.kinds_formed-wrong.ensures, some-first c.args.piece.now z))

pub returns-in-Some : goal.returns-in-Some
unfolding more_of
returns-in-Some c = keeps _ _ _ (rw (c.in-Some.is, c.kinds_formed-wrong.ensures))
