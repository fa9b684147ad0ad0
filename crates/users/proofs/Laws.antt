-- What the functions cite: a place that is found or that goes is in use, no code above 255 is found; a character is defined by the
-- place that goes.
use Prim.Native.Nat.{ℕ, zero, suc, ◌+◌, ◌*◌, ◌/◌, ◌<◌, ◌≤◌, min}
use mathlib.Core.Path.{◌≡◌, refl, sym, ap, ◌∙◌}
use mathlib.Core.List.{List}
use mathlib.Core.Bool.{Bool, true, false, cond}
use native.Mathlib.Omega.{arith}
use lib.ListN.{length, get_or}
use lib.Dec.{eqb, ltb}
use borrow.Author.Tests.{ne_eqb, le-ltb, ltb-true, ltb-false}
use Rattle.laws.proofs.Tests.{by-test}
use Rattle.users.specs.declared.Users.{Users}
use Rattle.std.specs.Prelude.{Option, None, Some}
use Rattle.users.specs.Users.{place_of, room_of, limit_of, found_in, users_in, in_room, leaving_by, leaving_of, without}
use Rattle.users.specs.Users.{with_youngest}
use Rattle.users.specs.Users.{define_of, define_in}

pub place-below : (us : List ℕ) (code n k j : ℕ) → place_of us code n k ≡ Some j → j < k + n
place-below us code zero k j e = let z : ◌≡◌ {A = ℕ} 0 1 = cc in omega arith
place-below us code (suc n) k j e = go (eqb (get_or us (k * 6) 0) code) e (λ h. place-below us code n (k + 1) j h)
  where
    go : (t : Bool) → cond t (Some k) (place_of us code n (k + 1)) ≡ Some j → (place_of us code n (k + 1) ≡ Some j → j < k + 1 + n)
        → j < k + suc n
    go true h l = let z : k ≡ j = cc in omega arith
    go false h l = let m : j < k + 1 + n = l h in omega arith

-- of a count that is a byte, as many as are in use and as there are bytes for
pub limit-byte : (us : List ℕ) (count : ℕ) → count ≤ 255 → limit_of us count ≡ min count (length us / 6)
unfolding limit_of room_of
limit-byte us count h = omega arith

-- a place that is found is in use
pub found_below : (us : List ℕ) (count code j : ℕ) → found_in us count code ≡ Some j → j < limit_of us count
unfolding found_in
found_below us count code j e = omega (arith, place-below us code (limit_of us count) 0 j e)

-- bytes are below 256, so no user character has a code above 255
place-above : (us : List ℕ) (code n k : ℕ) → ((i : ℕ) → get_or us i 0 < 256) → 255 < code → place_of us code n k ≡ None
place-above us code zero k bytes l = refl
place-above us code (suc n) k bytes l =
    let other : get_or us (k * 6) 0 ≡ code → ⊥ = λ e. omega (arith, bytes (k * 6)) in
    rw (ne_eqb (get_or us (k * 6) 0) code other) (place-above us code n (k + 1) bytes l)

pub none_above : (us : List ℕ) (count code : ℕ) → ((i : ℕ) → get_or us i 0 < 256) → 255 < code → found_in us count code ≡ None
unfolding found_in
none_above us count code bytes l = place-above us code (limit_of us count) 0 bytes l

-- The place that goes when a code is defined ------------------------------------------------------------------------------------

-- the code's own, none, or the oldest: what holds of each of them holds of the place that goes
pub by-leaving : (u : Users) (P : Option ℕ → Type 0) (f : Option ℕ) → ((k : ℕ) → f ≡ Some k → P (Some k))
    → (f ≡ None → u.count < room_of u.bytes → P None) → (f ≡ None → room_of u.bytes ≤ u.count → P (Some 0))
    → P (leaving_by f u)
by-leaving u P (Some k) own free full = own k refl
by-leaving u P None own free full =
    by-test P (ltb u.count (room_of u.bytes)) (λ t. free refl (ltb-true u.count (room_of u.bytes) t))
    (λ t. full refl (omega (arith, ltb-false u.count (room_of u.bytes) t)))

-- it is in use; where none goes, there is room for one more
abbrev pub Fits : List ℕ → ℕ → Option ℕ → Type 0
Fits us n (Some k) = (k < n) × (n ≤ room_of us)
Fits us n None = n < room_of us

pub leaving-fits : (us : List ℕ) (count code n : ℕ) (f : Option ℕ) → 0 < room_of us → n ≡ limit_of us count
    → f ≡ leaving_of (users_in us count) code → Fits us n f
unfolding limit_of
leaving-fits us count code n f h l e =
    rw (e, l) (by-leaving (in_room (users_in us count)) (Fits us (limit_of us count)) (found_in us count code)
    (λ k found. (found_below us count code k found, omega arith)) (λ _ m. m) (λ _ m. (omega arith, omega arith)))

-- where there is room for a place, and by the place that goes
pub defines : (us : List ℕ) (count code : ℕ) (held : List ℕ) (last n : ℕ) (f : Option ℕ) → 6 ≤ length us → n ≡ limit_of us count
    → f ≡ leaving_of (users_in us count) code
    → with_youngest (without f (users_in us n)) code held last ≡ define_in us count code held last
unfolding define_in define_of
defines us count code held last n f h l e = rw (le-ltb (length us) 6 h, e, l)

-- any two answers that the contract of `define` allows, with the bytes that they leave, are equal
pub one-define : (us : List ℕ) (count code : ℕ) (held : List ℕ) (last : ℕ) (x y : List ℕ) (r s : ℕ)
    → users_in x r ≡ define_in us count code held last → users_in y s ≡ define_in us count code held last → (x ≡ y) × (r ≡ s)
one-define us count code held last x y r s p q =
    (ap (λ (u : Users). u.bytes) (p ∙ sym q), ap (λ (u : Users). u.count) (p ∙ sym q))
