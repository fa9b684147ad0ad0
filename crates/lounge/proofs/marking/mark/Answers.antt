use mathlib.Core.Path.{◌≡◌}
use mathlib.Core.Bool.{true}
use Prim.Native.Nat.{ℕ, ◌≤◌, ◌<◌}
use native.Mathlib.Omega.{arith}
use lib.Dec.{leb}
use borrow.Author.Tests.{leb-true}
use Rattle.laws.proofs.Tests.{both}
use Rattle.lounge.specs.Marks.{is_pair}
use Rattle.lounge.proofs.Areas.{area-law}
use Rattle.lounge.proofs.marking.mark.Goals as goal

-- a pair is in order, and of places
in-order : (first second : ℕ) → is_pair first second ≡ true → (first ≤ second) × (second < 40)
unfolding is_pair
in-order first second e =
    let t = both (leb first second) (leb second 39) e in
    (leb-true _ _ t.0, omega (arith, leb-true second 39 t.1))

pub slice_bounds-mark_all-count : goal.slice_bounds-mark_all-count
slice_bounds-mark_all-count c = let p = in-order _ _ c.requires in omega (arith, p.0, p.1)

pub slice_bounds-mark_all-start : goal.slice_bounds-mark_all-start
slice_bounds-mark_all-start c = let p = in-order _ _ c.requires in omega (arith, p.0, p.1)

pub slice_bounds-mark_all-end : goal.slice_bounds-mark_all-end
slice_bounds-mark_all-end c = let p = in-order _ _ c.requires in omega (arith, p.0, p.1)

pub returns : goal.returns
returns c = area-law _ _ _ _ _ (in-order _ _ c.requires).0 c.mark_all.ensures
