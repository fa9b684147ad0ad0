-- The wanted codes, and the list of the user characters.
use mathlib.Core.Path.{◌≡◌, refl, ap}
use mathlib.Core.Bool.{◌||◌}
use mathlib.Core.List.{List, [], ◌∷◌}
use Prim.Native.Nat.{ℕ}
use Rattle.std.specs.List.{list_any}
use Rattle.users.specs.declared.Users.{Users}
use Rattle.users.specs.Users.{is_user, users_in}
use Rattle.planner.specs.Answer.{lacks, some_lacks}

-- a wanted code below 20h has no user character
pub lacks-any : (u : Users) (ws : List ℕ) → list_any (lacks u) ws ≡ some_lacks u ws
unfolding some_lacks
lacks-any u [] = refl
lacks-any u (w ∷ ws) = ap (λ b. lacks u w || b) (lacks-any u ws)

-- what is told of the list of the user characters is told of these
pub at-list : (u : Users) (bytes : List ℕ) (count : ℕ) → (bytes ≡ u.bytes) × (count ≡ u.count) → users_in bytes count ≡ u
at-list u bytes count e = λ i. users_in (e.0 i) (e.1 i)
