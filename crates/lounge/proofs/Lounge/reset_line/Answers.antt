use mathlib.Core.Path.{◌≡◌, sym, ◌∙◌}
use borrow.Author.Tests.{eq-eqb, ne_eqb}
use Rattle.row.specs.Row.{line_start}
use Rattle.lounge.specs.Pairs.{line_reset_of, home_in}
use Rattle.lounge.proofs.Lounge.reset_line.Goals as goal

pub returns-then-line_start-start : goal.returns-then-line_start-start
unfolding line_reset_of home_in
returns-then-line_start-start c =
    let k = c.args.self.now in
    let cleared = c.clear_line.ensures in
    let e : line_start k.cursor ≡ c.args.start = rw cleared at (sym c.line_start.ensures.0 ∙ c.if-line_start-start.true) in
    rw (c.go_to.ensures, cleared, c.requires, eq-eqb _ _ e)

pub returns-else-line_start-start : goal.returns-else-line_start-start
unfolding line_reset_of home_in
returns-else-line_start-start c =
    let k = c.args.self.now in
    let cleared = c.clear_line.ensures in
    let started : c.line_start.result ≡ line_start k.cursor = rw cleared at c.line_start.ensures.0 in
    let e : line_start k.cursor ≡ c.args.start → ⊥ = λ d. c.if-line_start-start.false (started ∙ d) in
    rw (cleared, c.requires, ne_eqb _ _ e)
