-- What is wrong with a block whatever condition stands in it, and what is then left to ask of that condition.
use Prim.Native.Nat.{ℕ, ◌≤◌}
use mathlib.Core.Path.{◌≡◌, refl}
use mathlib.Core.Bool.{Bool, true, false, cond, not, ◌&&◌}
use mathlib.Core.List.{List}
use native.Mathlib.Omega.{arith}
use lib.Dec.{eqb}
use lib.ListN.{length}
use borrow.Author.Tests.{eqb-true, not-false}
use Rattle.laws.proofs.Tests.{by-test, passed}
use Rattle.row.specs.Row.{same_bytes}
use Rattle.condition.specs.Condition.{well_formed}
use Rattle.layout.specs.Layout.{condition_in, unpacked_of}
use Rattle.layout.proofs.PackedBack.{enough}
use Rattle.block.specs.Block.{block_of}
use Rattle.block.specs.Reading.{intact, sound, read_refusal, damage_of}

-- a reading is refused for damage, and then for a condition that is not well formed
pub read_by : (b : List ℕ) → read_refusal b ≡ cond (eqb (damage_of b) 0) (cond (well_formed (condition_in b)) 0 3) (damage_of b)
unfolding read_refusal damage_of sound
read_by b = go (eqb (length b) 512) (intact b) (well_formed (condition_in b)) (same_bytes (block_of (condition_in b)) b)
  where
    go : (l i w s : Bool)
        → ◌≡◌ {A = ℕ} (cond (not l) 1 (cond (not i) 2 (cond (not (w && s)) 3 0)))
        (cond (eqb (cond (not l) 1 (cond (not i) 2 (cond (not s) 3 0))) 0) (cond w 0 3)
        (cond (not l) 1 (cond (not i) 2 (cond (not s) 3 0))))
    go true true true true = refl
    go true true true false = refl
    go true true false true = refl
    go true true false false = refl
    go true false w s = refl
    go false i w s = refl

-- one that is not damaged has its length, so a condition stands in it
pub whole_length : (b : List ℕ) → damage_of b ≡ 0 → length b ≡ 512
unfolding damage_of
whole_length b e = eqb-true (length b) 512 (not-false _ (passed (not (eqb (length b) 512)) 0 _ e).0)

pub whole-unpacked : (b : List ℕ) → damage_of b ≡ 0 → unpacked_of b ≡ condition_in b
whole-unpacked b e = enough b (omega (arith, whole_length b e))

-- a reading is refused by 3 at most
pub read-most : (b : List ℕ) → read_refusal b ≤ 3
unfolding read_refusal
read-most b =
    by-test (λ (n : ℕ). n ≤ 3) (not (eqb (length b) 512)) (λ _. omega arith)
    (λ _. by-test (λ (n : ℕ). n ≤ 3) (not (intact b)) (λ _. omega arith)
    (λ _. by-test (λ (n : ℕ). n ≤ 3) (not (sound b)) (λ _. omega arith) (λ _. omega arith)))
