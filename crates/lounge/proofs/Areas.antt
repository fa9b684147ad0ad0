-- The part of the marks from the first position to the second, changed.
use Prim.Native.Nat.{ℕ, ◌+◌, ◌≤◌, ◌-◌}
use mathlib.Core.Path.{◌≡◌}
use mathlib.Core.List.{List, ◌++◌, map}
use native.Mathlib.Omega.{arith}
use lib.ListN.{take, drop}
use lib.Seq.{drop-drop}
use Rattle.lounge.specs.Marks.{marked, marked_area}

pub area-law : (marks x : List ℕ) (k first second : ℕ) → first ≤ second
    → x ≡ map (marked k) (take (second + 1 - first) (drop first marks))
    → take first marks ++ (x ++ drop (second + 1 - first) (drop first marks)) ≡ marked_area k first second marks
unfolding marked_area
area-law marks x k first second h e =
    let n : first + (second + 1 - first) ≡ second + 1 = omega arith in
    rw (e, drop-drop (second + 1 - first) first marks, n)
