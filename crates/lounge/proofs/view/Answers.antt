use Prim.Native.Nat.{◌≤◌}
use mathlib.Core.Path.{◌≡◌, sym, ◌∙◌}
use mathlib.Core.Bool.{true, false, and-false}
use native.Mathlib.Omega.{arith}
use borrow.Author.Tests.{le-leb, lt-leb}
use Rattle.lounge.specs.Condition.{well_formed}
use Rattle.lounge.specs.Shows.{view_answer, seen_of}
use Rattle.lounge.proofs.view.Goals as goal

pub returns-then-not-is_well_formed : goal.returns-then-not-is_well_formed
unfolding view_answer
returns-then-not-is_well_formed c =
    let no-formed : well_formed c.args.c ≡ false = sym c.is_well_formed.ensures ∙ c.if-not-is_well_formed.true in
    rw no-formed

pub returns-then-i-ge-CELLS : goal.returns-then-i-ge-CELLS
unfolding view_answer
returns-then-i-ge-CELLS c = rw (lt-leb _ 39 c.if-i-ge-CELLS.true) (sym (rw (and-false (well_formed c.args.c))))

pub returns : goal.returns
unfolding view_answer seen_of
returns c =
    let is-formed : well_formed c.args.c ≡ true = sym c.is_well_formed.ensures ∙ c.if-not-is_well_formed.false in
    let in-range : c.args.position ≤ 39 = omega (arith, c.if-i-ge-CELLS.false) in
    rw (c.has_mark-2.ensures, c.has_mark.ensures, c.level.ensures, c.shows.ensures) (rw (is-formed, le-leb _ _ in-range))
