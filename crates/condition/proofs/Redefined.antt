-- A code defined again (document 02, W3), as the bytes on the wire: 1B 43 code d1 d2 d3 d4 d5.
use Prim.Native.Nat.{ℕ, ◌≤◌, ◌%◌}
use mathlib.Core.Path.{◌≡◌, ◌∙◌}
use mathlib.Core.Bool.{true, false}
use mathlib.Core.List.{List, [], ◌∷◌}
use native.Mathlib.Omega.{arith}
use lib.ListN.{length, set, drop, drop_of_length-le}
use lib.Seq.{sets-eq}
use Rattle.users.specs.Users.{is_user, found_of}
use Rattle.std.specs.Prelude.{Some}
use Rattle.users.proofs.Replaced.{Replaced, again}
use Rattle.condition.specs.declared.Condition.{Condition}
use Rattle.condition.specs.declared.Pending.TheVariants.{Nothing}
use Rattle.condition.specs.Condition.{well_formed}
use Rattle.condition.specs.Bytes.{escape_of, data_of, step_at, run_of}
use Rattle.condition.proofs.Characters.{escaped}
use Rattle.condition.proofs.Good.{Sized, good, room-16}

-- four bytes held, one after the other
held-four : (h : List ℕ) (d1 d2 d3 d4 : ℕ) → length h ≡ 4 → set (set (set (set h 0 d1) 1 d2) 2 d3) 3 d4 ≡ d1 ∷ d2 ∷ d3 ∷ d4 ∷ []
held-four h d1 d2 d3 d4 e =
    let four : length h ≤ 4 = omega arith in
    let none : drop 4 h ≡ [] = drop_of_length-le h four in
    sets-eq (d1 ∷ d2 ∷ d3 ∷ d4 ∷ []) h 0 (omega arith) ∙ rw none

pub redefined : (c : Condition) (k code d1 d2 d3 d4 d5 : ℕ) → Sized c → well_formed c ≡ true → c.pending ≡ Nothing
    → is_user c.users 0x1b ≡ false → found_of c.users code ≡ Some k
    → Replaced c.users k code (d1 ∷ d2 ∷ d3 ∷ d4 ∷ []) (d5 % 16)
    (run_of c (0x1b ∷ 0x43 ∷ code ∷ d1 ∷ d2 ∷ d3 ∷ d4 ∷ d5 ∷ [])).users
unfolding run_of step_at escape_of data_of
redefined c k code d1 d2 d3 d4 d5 s w e u f =
    rw (escaped c e u, held-four c.held d1 d2 d3 d4 s.held-4)
    (again c.users k code (d1 ∷ d2 ∷ d3 ∷ d4 ∷ []) (d5 % 16) (omega (arith, room-16 c s, (good c w).count-16)) f)
