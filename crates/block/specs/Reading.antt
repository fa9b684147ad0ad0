-- What a block is read as (document 01, Block; Refusal numbers and their order).
use Rattle.std.specs.Prelude.{ℕ, ◌/◌, ◌%◌, ◌≡◌, List, Bool, true, cond, not, ◌&&◌, length, get_or, eqb}
use Rattle.row.specs.Row.{same_bytes}
use Rattle.condition.specs.Condition.{well_formed, power_up, Outcome}
use Rattle.layout.specs.Layout.{condition_in}
use Rattle.block.specs.Block.{check_of, block_of}

-- bytes 0-2 and the check
unfoldable pub intact : List ℕ → Bool
intact b =
    eqb (get_or b 0 0) 0x56 && eqb (get_or b 1 0) 0x4b && eqb (get_or b 2 0) 0x01
    && eqb (get_or b 510 0) (check_of b % 256) && eqb (get_or b 511 0) (check_of b / 256)

-- the condition that stands there is well formed, and the block has no byte but those of that condition: no flag above 1, no
-- kind above 6, and every unused place 0
unfoldable pub sound : List ℕ → Bool
sound b = well_formed (condition_in b) && same_bytes (block_of (condition_in b)) b

-- 1: a block not 512 bytes. 2: bytes 0-2 or the check of a block differ. 3: condition not well formed (or a nonzero unused byte)
unfoldable pub read_refusal : List ℕ → ℕ
read_refusal b =
    cond (not (eqb (length b) 512)) 1
    (cond (not (intact b)) 2
    (cond (not (sound b)) 3 0))

-- What a block is refused for whatever condition stands in it. 1 and 2: as above. 3: it is not the block of that condition, so a
-- flag is above 1, a kind above 6, or an unused place is not 0
unfoldable pub damage_of : List ℕ → ℕ
damage_of b =
    cond (not (eqb (length b) 512)) 1
    (cond (not (intact b)) 2
    (cond (not (same_bytes (block_of (condition_in b)) b)) 3 0))

-- a refused reading returns power-up for font 0
abbrev pub refused_of : ℕ → Outcome
refused_of n = record { refusal = n; condition = power_up 0 }

unfoldable pub read_answer : List ℕ → Outcome
read_answer b = cond (eqb (read_refusal b) 0) (record { refusal = 0; condition = condition_in b }) (refused_of (read_refusal b))

-- The answer r of a reading. Whatever it is, the condition is well formed; an accepted block is written back to the same bytes.
pub record ReadPromise (b : List ℕ) (r : Outcome) : Type 0 where
  pub answer : r ≡ read_answer b
  pub formed : well_formed r.condition ≡ true
  pub again : r.refusal ≡ 0 → block_of r.condition ≡ b
