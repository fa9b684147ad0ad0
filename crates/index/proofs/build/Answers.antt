use Prim.Native.Nat.{ℕ}
use mathlib.Core.Path.{ap, ◌∙◌}
use native.Mathlib.Omega.{arith}
use lib.ListN.{length, length-replicate}
use Rattle.users.specs.Users.{room_of, limit_of}
use Rattle.index.specs.Index.{index_of}
use Rattle.index.proofs.Building.{built-none, built-put, built-all}
use Rattle.index.proofs.build.Goals as goal

pub loop-k-init : goal.loop-k-init
unfolding limit_of
loop-k-init c =
    let e = c.limit-k.ensures.0 in
    let z = c.fill.ensures.after in (
      omega (arith, e),
      omega arith,
      omega (arith, e, c.limit-k.ensures.1),
      rw (z, e, length-replicate _ _) (built-none _ _ _),
    )

pub loop-k-preserved : goal.loop-k-preserved
loop-k-preserved c =
    let l = c.loop-k in (
      omega arith,
      l.invariant.1,
      l.invariant.2,
      rw c.put.ensures (built-put _ _ l.k _ _ (omega arith) l.invariant.0 l.invariant.3),
    )

pub shape_of-entries : goal.shape_of-entries
shape_of-entries c = c.loop-k.invariant.3.size ∙ rw (c.fill.ensures.after, length-replicate)

pub overflow_cast-entry : goal.overflow_cast-entry
unfolding limit_of room_of
overflow_cast-entry c = omega (arith, c.loop-k.invariant)

pub returns : goal.returns
returns c =
    let a = c.args in
    let l = c.loop-k in
    built-all a.list.now.bytes.now a.list.now.count l.k _ (omega arith) l.invariant.3
    ∙ ap (λ (n : ℕ). index_of n a.list.now.bytes.now a.list.now.count)
    (rw (c.fill.ensures.after, length-replicate))
