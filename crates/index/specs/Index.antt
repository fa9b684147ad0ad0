-- The index of user codes (document 02, W9): from code to place in the list, 0 for none, otherwise 1 to 16.
use Rattle.std.specs.Prelude.{ℕ, zero, suc, ◌+◌, Option, None, Some, List, [], ◌∷◌, Bool}
use Rattle.row.specs.Row.{same_bytes}
use Rattle.users.specs.Users.{found_in}

-- a place of the list, the oldest being 0, as an entry: 0 for none, otherwise counted from 1
abbrev pub entry_of : Option ℕ → ℕ
entry_of None = 0
entry_of (Some k) = k + 1

-- the entries of n codes from `code` on, of the list that is the first `count` places of six bytes
unfoldable pub entries_from : List ℕ → ℕ → ℕ → ℕ → List ℕ
entries_from us count zero code = []
entries_from us count (suc n) code = entry_of (found_in us count code) ∷ entries_from us count n (code + 1)

-- the entries of the first n codes
unfoldable pub index_of : ℕ → List ℕ → ℕ → List ℕ
index_of n us count = entries_from us count n 0

-- the list and an index of 256 entries agree
unfoldable pub index_agrees : List ℕ → List ℕ → ℕ → Bool
index_agrees x us count = same_bytes x (index_of 256 us count)
