use mathlib.Core.Path.{◌≡◌}
use Prim.Native.Nat.{◌-◌}
use lib.ListN.{length, replicate}
use borrow.Rule.Slice.PartMut.{mid_of}
use borrow.Author.Tests.{ne_eqb}
use Rattle.row.specs.Row.{on_picture, scrolled}
use Rattle.row.proofs.Laws.{scroll-law, on-picture}
use borrow.Author.Rules.{rules}
use Rattle.row.proofs.scroll.Goals as goal

pub returns-then-cells-ne40 : goal.returns-then-cells-ne40
unfolding on_picture
returns-then-cells-ne40 c = rw (ne_eqb _ _ c.if-cells-ne40.true)

pub returns : goal.returns
returns c =
    let a = c.args in
    let h : length a.cells.now ≡ 40 = search rules in
    let e : c.fill.new.self ≡ replicate (length (mid_of 20 (length c.copy_within.new.self - 20) c.copy_within.new.self)) a.v =
    search rules in
    rw (on-picture (scrolled a.v) a.cells.now h, e) (scroll-law a.cells.now _ a.v h c.copy_within.ensures.after)
