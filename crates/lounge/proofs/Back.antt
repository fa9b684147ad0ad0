-- A condition and its head: read from its head and its rows, a condition is what it was.
use Prim.Native.Nat.{ℕ}
use mathlib.Core.Path.{◌≡◌, refl}
use mathlib.Core.List.{List, [], ◌∷◌}
use mathlib.Core.Bool.{Bool, true, false}
use native.Mathlib.Omega.{arith}
use mir.Val.{bool_byte}
use lib.Dec.{eqb}
use lib.ListN.{length, get_or}
use Rattle.laws.specs.Flags.{flag}
use Rattle.laws.proofs.Lists.{each, gets-all}
use Rattle.laws.proofs.Flags.{flag-back}
use Rattle.lounge.specs.declared.Lounge.{Lounge}
use Rattle.lounge.specs.declared.Pending.{Pending}
use Rattle.lounge.specs.declared.Pending.TheVariants.{Nothing, Escape, UserData, First, Second}
use Rattle.lounge.specs.Head.{kind_of, code_of, number_of, pending_of, head_of, lounge_in}

-- the bytes held, one by one
pub held-in : (h codes marks us : List ℕ) → length h ≡ 13
    → (lounge_in h codes marks us).held ≡ get_or h 9 0 ∷ get_or h 10 0 ∷ get_or h 11 0 ∷ get_or h 12 0 ∷ []
unfolding lounge_in
held-in h codes marks us l =
    each 13 (λ (h : List ℕ). (lounge_in h codes marks us).held ≡ get_or h 9 0 ∷ get_or h 10 0 ∷ get_or h 11 0 ∷ get_or h 12 0 ∷ [])
    (search) h (omega arith)

-- the condition that a head and three rows make
pub whole-in : (h codes marks us : List ℕ) (p : Pending) → length h ≡ 13
    → p ≡ pending_of (get_or h 6 0) (get_or h 7 0) (get_or h 8 0)
    → ◌≡◌ {A = Lounge}
    (record {
      codes = codes;
      marks = marks;
      cursor = get_or h 0 0;
      mode = get_or h 1 0;
      scrolling = eqb (get_or h 2 0) 1;
      dimming = eqb (get_or h 3 0) 1;
      last = get_or h 4 0;
      users = us;
      count = get_or h 5 0;
      pending = p;
      held = get_or h 9 0 ∷ get_or h 10 0 ∷ get_or h 11 0 ∷ get_or h 12 0 ∷ [];
    })
    (lounge_in h codes marks us)
unfolding lounge_in
whole-in h codes marks us p l e = rw (e, ← held-in h codes marks us l)

-- a flag as the code makes a number of it
pub bit-flag : (t : Bool) → bool_byte t ≡ flag t
bit-flag true = refl
bit-flag false = refl

-- The head of a condition ----------------------------------------------------------------------------------------------------

pending-back : (p : Pending) → pending_of (kind_of p) (code_of p) (number_of p) ≡ p
pending-back Nothing = refl
pending-back Escape = refl
pending-back (UserData code n) = refl
pending-back (First area) = refl
pending-back (Second area first) = refl

-- read from its head and its rows, a condition is what it was
pub head-back : (c : Lounge) → length c.held ≡ 4 → lounge_in (head_of c) c.codes c.marks c.users ≡ c
unfolding lounge_in head_of
head-back c l = λ i. record {
  codes = c.codes;
  marks = c.marks;
  cursor = c.cursor;
  mode = c.mode;
  scrolling = flag-back c.scrolling i;
  dimming = flag-back c.dimming i;
  last = c.last;
  users = c.users;
  count = c.count;
  pending = pending-back c.pending i;
  held = gets-all 4 c.held l i;
}
