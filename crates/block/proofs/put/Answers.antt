use Rattle.condition.proofs.Good.{Sized}
use Rattle.layout.proofs.PackedBack.{length-packed}
use Rattle.block.proofs.Sealing.{put-short, put-block, check-bytes}
use native.Mathlib.Omega.{arith}
use lib.ListN.{length-take}
use Prim.Native.Nat.{◌%◌}
use mathlib.Core.Path.{refl, ◌∙◌}
use borrow.Author.Rules.{rules}
use Rattle.block.proofs.put.Goals as goal
use Rattle.block.proofs.put.Goals.{Start}

sized : (c : Start) → Sized c.args.c
sized c = record { codes-40 = search rules; fonts-40 = search rules; users-96 = search rules; held-4 = search rules }

pub returns-then-room-lt-LENGTH : goal.returns-then-room-lt-LENGTH
returns-then-room-lt-LENGTH c = put-short _ _ c.if-room-lt-LENGTH.true

pub slice_bounds-copy_from_slice-end-2 : goal.slice_bounds-copy_from_slice-end-2
slice_bounds-copy_from_slice-end-2 c = simp length-take (omega arith)

pub copy_from_slice-requires : goal.copy_from_slice-requires
copy_from_slice-requires c =
    rw c.packed-first.ensures
    (simp length-take (omega (arith, length-packed c.args.c (sized (goal.at.copy_from_slice-requires c).Start))))

pub returns : goal.returns
returns c =
    rw (c.copy_from_slice.ensures.after, c.packed-first.ensures)
    (put-block c.args.c (sized (goal.at.returns c).Start) c.args.out.now _ _ (c.weighed.result % 65521) c.if-room-lt-LENGTH.false
    (rw (c.weighed.ensures, c.packed-first.ensures) refl) (search rules)
    (rw c.copy_from_slice-2.ensures.after (c.to_le_bytes.ensures ∙ check-bytes _ (omega arith))))
