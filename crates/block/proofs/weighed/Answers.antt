use mathlib.Core.Path.{◌≡◌, sym, ◌∙◌}
use Prim.Native.Nat.{ℕ, suc, ◌+◌, ◌*◌, ◌<◌, ◌≤◌}
use native.Mathlib.Nat.{mul-le-mul, add_assoc, add-zero}
use native.Mathlib.Numerals.{add-one}
use native.Mathlib.Omega.{arith}
use mathlib.Core.List.{List}
use lib.ListN.{length, get_or, drop, drop_of_length-le}
use lib.Seq.{drop-cons}
use Rattle.block.specs.Block.{weigh}
use Rattle.block.proofs.weighed.Goals as goal

-- a turn, and the end
turned : (s : List ℕ) (sum p i t : ℕ) → i < length s → sum + weigh p (drop i s) ≡ t
    → sum + p * get_or s i 0 + weigh (p + 1) (drop (i + 1) s) ≡ t
unfolding weigh
turned s sum p i t inside e =
    let f : sum + (p * get_or s i 0 + weigh (p + 1) (drop (suc i) s)) ≡ t = rw (drop-cons s i 0 inside) at e in
    rw (add-one i, add_assoc) f

ended : (s : List ℕ) (sum p i t : ℕ) → length s ≤ i → sum + weigh p (drop i s) ≡ t → sum ≡ t
unfolding weigh
ended s sum p i t past e = sym (add-zero sum) ∙ (rw (drop_of_length-le s past) at e)

product : (p b : ℕ) → p ≤ 510 → b < 256 → p * b ≤ 130050
product p b hp hb = let hb' : b ≤ 255 = omega arith in mul-le-mul hp hb'

pub loop-i-init : goal.loop-i-init
loop-i-init c = (omega arith, omega arith)

pub overflow_add-sum : goal.overflow_add-sum
overflow_add-sum c = omega arith

pub overflow_mul-sum : goal.overflow_mul-sum
overflow_mul-sum c =
    let l = c.loop-i in
    let below = product (l.i + 1) c.from.result (omega arith) (omega (arith, c.type_inv.s l.i)) in
    omega arith

pub overflow_add-sum-in-loop-i : goal.overflow_add-sum-in-loop-i
overflow_add-sum-in-loop-i c =
    let l = c.loop-i in
    let below = product (l.i + 1) c.from.result (omega arith) (omega (arith, c.type_inv.s l.i)) in
    omega arith

pub loop-i-preserved : goal.loop-i-preserved
loop-i-preserved c =
    let l = c.loop-i in
    let s = c.args.s.now in
    let below = product (l.i + 1) c.from.result (omega arith) (omega (arith, c.type_inv.s l.i)) in
    (rw c.from.ensures (turned s l.sum (l.i + 1) l.i _ c.loop-i-test.true l.invariant.0), omega arith)

pub returns : goal.returns
returns c =
    let l = c.loop-i in
    ended c.args.s.now l.sum (l.i + 1) l.i _ c.loop-i-test.false l.invariant.0
