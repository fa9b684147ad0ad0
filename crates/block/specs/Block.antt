-- The block of a condition (document 01, Block): 512 bytes.
use Rattle.std.specs.Prelude.{ℕ, ◌+◌, ◌*◌, ◌/◌, ◌%◌, cond, List, [], ◌∷◌, ◌++◌, ltb, length, take, drop, replicate}
use Rattle.condition.specs.declared.Condition.{Condition}
use Rattle.layout.specs.Layout.{packed_of}

-- the sum of each byte times its place, the first place being n
unfoldable pub weigh : ℕ → List ℕ → ℕ
weigh n [] = 0
weigh n (b ∷ bs) = n * b + weigh (n + 1) bs

-- the check is the sum of (i+1) times byte i, i 0 to 509, mod 65,521
unfoldable pub check_of : List ℕ → ℕ
check_of b = weigh 1 (take 510 b) % 65521

-- bytes 0 to 509: the condition, and 200 to 509 unused
unfoldable pub body_of : Condition → List ℕ
body_of c = packed_of c ++ replicate 310 0

-- 510-511 check, low byte first
unfoldable pub seal_of : List ℕ → List ℕ
seal_of b = b ++ (check_of b % 256 ∷ check_of b / 256 ∷ [])

-- the block of a condition
unfoldable pub block_of : Condition → List ℕ
block_of c = seal_of (body_of c)

-- the block at the start of a buffer that has room for it
unfoldable pub put_over : Condition → List ℕ → List ℕ
put_over c out = cond (ltb (length out) 512) out (block_of c ++ drop 512 out)
