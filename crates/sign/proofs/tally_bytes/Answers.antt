use Rattle.std.proofs.Common.{◌≡◌, ◌∙◌, ℕ, List, [], ◌∷◌, ◌++◌, ◌/◌, arith}
use Rattle.std.specs.Int.{to_le_bytes, w32}
use borrow.Rule.Slice.PartMut.{put_mid}
use Rattle.interpreter.specs.declared.Tally.{Tally}
use Rattle.sign.specs.Calls.{four_bytes, tally_bytes}
use Rattle.sign.proofs.tally_bytes.Goals as goal

-- the library's bytes of a number are these
four : (n : ℕ) → to_le_bytes w32 n ≡ four_bytes n
four n = let whole : n / 1 ≡ n = omega arith in rw whole

abbrev empty : List ℕ
empty = 0 ∷ 0 ∷ 0 ∷ 0 ∷ 0 ∷ 0 ∷ 0 ∷ 0 ∷ 0 ∷ 0 ∷ 0 ∷ 0 ∷ []

-- four bytes at a time
laid : (t : Tally) (a b c d : List ℕ) → a ≡ to_le_bytes w32 t.bytes → b ≡ to_le_bytes w32 t.busy
    → c ≡ to_le_bytes w32 t.flickerless → d ≡ to_le_bytes w32 t.worst
    → put_mid 12 4 (put_mid 8 4 (put_mid 4 4 (a ++ empty) b) c) d ≡ tally_bytes t
unfolding tally_bytes
laid t a b c d ea eb ec ed = rw (ea ∙ four t.bytes, eb ∙ four t.busy, ec ∙ four t.flickerless, ed ∙ four t.worst)

pub returns : goal.returns
returns c =
    laid c.args.t _ _ _ _ (c.copy_from_slice.ensures.after ∙ c.to_le_bytes.ensures)
    (c.copy_from_slice-2.ensures.after ∙ c.to_le_bytes-2.ensures)
    (c.copy_from_slice-3.ensures.after ∙ c.to_le_bytes-3.ensures)
    (c.copy_from_slice-4.ensures.after ∙ c.to_le_bytes-4.ensures)
