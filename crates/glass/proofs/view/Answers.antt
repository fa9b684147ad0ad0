use Prim.Native.Nat.{◌<◌, ◌≤◌}
use mathlib.Core.Path.{sym, ◌∙◌}
use native.Mathlib.Omega.{arith}
use borrow.Author.Tests.{le-leb, lt-leb}
use Rattle.glass.specs.Shows.{shows_of}
use Rattle.glass.specs.Answers.{view_answer}
use Rattle.glass.proofs.view.Goals as goal
use Rattle.glass.proofs.view.Goals.{then-not-is_well_formed-via-then-not-is_well_formed}
use Rattle.glass.proofs.view.Goals.{then-not-is_well_formed-via-else-not-is_well_formed+then-i-ge-CELLS}

pub returns-then-not-is_well_formed : goal.returns-then-not-is_well_formed
unfolding view_answer
returns-then-not-is_well_formed c =
    elim c.then-not-is_well_formed.branch [
      | then-not-is_well_formed-via-then-not-is_well_formed w ↦ rw (sym c.is_well_formed.ensures ∙ w.if-not-is_well_formed.true)
      | then-not-is_well_formed-via-else-not-is_well_formed+then-i-ge-CELLS w ↦
          let past : 39 < c.args.position = omega (arith, w.if-i-ge-CELLS.true) in
          rw (sym c.is_well_formed.ensures ∙ w.if-not-is_well_formed.false, lt-leb _ _ past)
    ]

pub returns : goal.returns
unfolding view_answer shows_of
returns c =
    let inside : c.args.position ≤ 39 = omega (arith, c.if-i-ge-CELLS.false) in
    rw (c.shows_code.ensures, sym c.is_well_formed.ensures ∙ c.if-not-is_well_formed.false, le-leb _ _ inside)
