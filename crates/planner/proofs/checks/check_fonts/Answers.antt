use mathlib.Core.Path.{◌≡◌, sym, ap, ◌∙◌}
use mathlib.Core.Bool.{◌&&◌, ◌||◌}
use lib.Dec.{eqb, leb}
use lib.ListN.{length}
use borrow.Author.Tests.{eq-eqb, ne_eqb, le-leb, lt-leb}
use Rattle.row.specs.Row.{all_up_to}
use Rattle.planner.specs.Answer.{on_move, on_switch, fonts_refusal}
use Rattle.planner.proofs.Wanted.{at-list}
use Rattle.planner.proofs.checks.check_fonts.Goals as goal
use Rattle.planner.proofs.checks.check_fonts.Goals.{then-wanted-eq-CELLS, else-wanted-eq-CELLS}
use Rattle.planner.proofs.checks.check_fonts.Goals.{then-asked-le-LAST, else-asked-le-LAST, then-on_move, else-on_move}

pub returns : goal.returns
unfolding fonts_refusal
returns c =
    let a = c.args in
    let long : c.if-wanted-eq-CELLS.check ≡ (eqb (length a.wanted.now) 40 && eqb (length a.fonts.now) 40) =
    elim c.if-wanted-eq-CELLS.branch [
      | then-wanted-eq-CELLS w ↦ w.check-is ∙ rw (eq-eqb _ _ w.if-wanted-eq-CELLS.true)
      | else-wanted-eq-CELLS w ↦ w.check-is ∙ rw (ne_eqb _ _ w.if-wanted-eq-CELLS.false)
    ] in
    let ranged : c.if-asked-le-LAST.check ≡ (leb a.asked 39 && all_up_to 1 a.fonts.now) =
    elim c.if-asked-le-LAST.branch [
      | then-asked-le-LAST w ↦ w.check-is ∙ w.up_to.ensures ∙ rw (le-leb _ _ w.if-asked-le-LAST.true)
      | else-asked-le-LAST w ↦ w.check-is ∙ rw (lt-leb _ _ w.if-asked-le-LAST.false)
    ] in
    let u = a.c.now.users in
    let moving : c.on_move.result ≡ on_move u =
    c.on_move.ensures ∙ ap on_move (at-list a.c.now.users _ _ c.list-users.ensures) in
    let blocked : c.if-on_move.check ≡ (on_move u || on_switch u) =
    elim c.if-on_move.branch [
      | then-on_move w ↦ w.check-is ∙ w.if-on_move.true ∙ rw (sym moving ∙ w.if-on_move.true)
      | else-on_move w ↦ w.check-is ∙ w.on_switch.ensures ∙ ap on_switch (at-list a.c.now.users _ _ c.list-users.ensures)
          ∙ rw (sym moving ∙ w.if-on_move.false)
    ] in
    c.check.ensures ∙ rw (long, ranged, blocked)
