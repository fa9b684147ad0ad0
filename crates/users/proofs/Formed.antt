-- The tests on user characters, by places.
use mathlib.Core.Path.{◌≡◌, refl, sym, ap, ◌∙◌}
use mathlib.Core.Bool.{true, ◌&&◌, not}
use mathlib.Core.List.{List}
use Prim.Native.Nat.{ℕ, zero, suc, ◌<◌, ◌≤◌, ◌+◌, ◌-◌, ◌*◌}
use native.Mathlib.Nat.{add-zero}
use native.Mathlib.Omega.{arith}
use lib.Dec.{ltb, leb, eqb}
use lib.ListN.{get_or, set, drop, replicate}
use lib.Seq.{get_or-drop, drop-drop, drop-set-lt}
use borrow.Author.Tests.{ltb-true, eqb-false, not-true, lt-ltb, le-leb, leb-true, ne_eqb}
use Rattle.laws.proofs.Tests.{both, by_cases, clash}
use Rattle.row.specs.Row.{all_up_to}
use Rattle.row.proofs.Ranges.{up-to-at, at-up-to, up-to-drop}
use Rattle.users.specs.declared.Users.{Users}
use Rattle.std.specs.Option.{is_some}
use Rattle.users.specs.Users.{room_of, is_user, found_in, define_of, absent, places_formed, users_formed, held_formed}
use Rattle.users.proofs.Places.{Places, not-user, new-not-user, define-places, define-most, define-length}

-- the places after the first
after : (l : List ℕ) (i k : ℕ) → 6 + i ≡ k → get_or (drop 6 l) i 0 ≡ get_or l k 0
after l i k e = get_or-drop 6 l i 0 ∙ ap (λ (n : ℕ). get_or l n 0) e

code-after : (l : List ℕ) (i : ℕ) → get_or (drop 6 l) (i * 6) 0 ≡ get_or l (suc i * 6) 0
code-after l i = after l (i * 6) (suc i * 6) (omega arith)

fifth-after : (l : List ℕ) (i : ℕ) → get_or (drop 6 l) (i * 6 + 5) 0 ≡ get_or l (suc i * 6 + 5) 0
fifth-after l i = after l (i * 6 + 5) (suc i * 6 + 5) (omega arith)

-- the code stands in none of the places
pub absent-at : (x n : ℕ) (l : List ℕ) → absent x n l ≡ true → (i : ℕ) → i < n → get_or l (i * 6) 0 ≡ x → ⊥
unfolding absent
absent-at x zero l e i h d = omega arith
absent-at x (suc n) l e zero h d =
    let p = both (not (eqb (get_or l 0 0) x)) (absent x n (drop 6 l)) e in
    eqb-false (get_or l 0 0) x (not-true (eqb (get_or l 0 0) x) p.0) d
absent-at x (suc n) l e (suc i) h d =
    let p = both (not (eqb (get_or l 0 0) x)) (absent x n (drop 6 l)) e in
    absent-at x n (drop 6 l) p.1 i (omega arith) (code-after l i ∙ d)

pub at-absent : (x n : ℕ) (l : List ℕ) → ((i : ℕ) → i < n → get_or l (i * 6) 0 ≡ x → ⊥) → absent x n l ≡ true
unfolding absent
at-absent x zero l h = refl
at-absent x (suc n) l h =
    rw (ne_eqb (get_or l 0 0) x (h 0 (omega arith)))
    (at-absent x n (drop 6 l) (λ i m d. h (suc i) (omega arith) (sym (code-after l i) ∙ d)))

-- one place more, before the others
more : (bound n : ℕ) (l : List ℕ) → get_or l 5 0 < bound
    → ((i : ℕ) → i < n → get_or (drop 6 l) (i * 6) 0 ≡ get_or l 0 0 → ⊥) → Places bound n (drop 6 l) → Places bound (suc n) l
more bound n l f a p = record { fifth = fifth; apart = apart; rest = rest }
  where
    fifth : (i : ℕ) → i < suc n → get_or l (i * 6 + 5) 0 < bound
    fifth zero h = f
    fifth (suc i) h = rw (fifth-after l i) at (p.fifth i (omega arith))

    apart : (i j : ℕ) → i < suc n → j < suc n → get_or l (i * 6) 0 ≡ get_or l (j * 6) 0 → i ≡ j
    apart zero zero h m e = refl
    apart zero (suc j) h m e = absurd (a j (omega arith) (code-after l j ∙ sym e))
    apart (suc i) zero h m e = absurd (a i (omega arith) (code-after l i ∙ e))
    apart (suc i) (suc j) h m e = ap suc (p.apart i j (omega arith) (omega arith) (code-after l i ∙ e ∙ sym (code-after l j)))

    rest : (i : ℕ) → suc n * 6 ≤ i → get_or l i 0 ≡ 0
    rest i h = sym (after l (i - 6) i (omega arith)) ∙ p.rest (i - 6) (omega arith)

-- user codes distinct, each fifth byte below the bound, the other places 0
pub places : (bound n : ℕ) (l : List ℕ) → places_formed bound n l ≡ true → Places bound n l
unfolding places_formed
places bound zero l e =
    record { fifth = λ i h. omega arith; apart = λ i j h _ _. omega arith; rest = λ i h. omega (arith, up-to-at 0 l e i) }
places bound (suc n) l e =
    let p = both (ltb (get_or l 5 0) bound) (absent (get_or l 0 0) n (drop 6 l) && places_formed bound n (drop 6 l)) e in
    let q = both (absent (get_or l 0 0) n (drop 6 l)) (places_formed bound n (drop 6 l)) p.1 in
    more bound n l (ltb-true (get_or l 5 0) bound p.0) (absent-at (get_or l 0 0) n (drop 6 l) q.0) (places bound n (drop 6 l)
    q.1)

pub places-formed : (bound n : ℕ) (l : List ℕ) → Places bound n l → places_formed bound n l ≡ true
unfolding places_formed
places-formed bound zero l p = at-up-to 0 l (λ i. omega (arith, p.rest i (omega arith)))
places-formed bound (suc n) l p =
    rw (
      lt-ltb (get_or l 5 0) bound (p.fifth 0 (omega arith)),
      at-absent (get_or l 0 0) n (drop 6 l)
          (λ i h d. omega (arith, p.apart (suc i) 0 (omega arith) (omega arith) (sym (code-after l i) ∙ d))),
    )
    (places-formed bound n (drop 6 l)
    (record {
      fifth = λ i h. rw (fifth-after l i) (p.fifth (suc i) (omega arith));
      apart =
          λ i j h m d.
          omega (arith, p.apart (suc i) (suc j) (omega arith) (omega arith) (sym (code-after l i) ∙ d ∙ code-after l j));
      rest = λ i h. after l i (6 + i) refl ∙ p.rest (6 + i) (omega arith);
    }))

-- a user character that is defined keeps them so
pub define-formed : (bound : ℕ) (u : Users) (code : ℕ) (held : List ℕ) (last : ℕ) → 0 < room_of u.bytes
    → u.count ≤ room_of u.bytes → last < bound → places_formed bound u.count u.bytes ≡ true
    → places_formed bound (define_of u code held last).count (define_of u code held last).bytes ≡ true
define-formed bound u code held last r l low e =
    places-formed bound (define_of u code held last).count (define_of u code held last).bytes
    (define-places bound u code l (places bound u.count u.bytes e) held last r low)

pub define-users-formed : (bound : ℕ) (u : Users) (code : ℕ) (held : List ℕ) (last : ℕ) → 0 < room_of u.bytes → last < bound
    → users_formed bound u.bytes u.count ≡ true
    → users_formed bound (define_of u code held last).bytes (define_of u code held last).count ≡ true
unfolding users_formed room_of
define-users-formed bound u code held last r low e =
    let p = both (leb u.count (room_of u.bytes)) (places_formed bound u.count u.bytes) e in
    rw (
      define-length u code held last r,
      le-leb (define_of u code held last).count (room_of u.bytes)
          (define-most u code held last r),
    )
    (define-formed bound u code held last r (leb-true u.count (room_of u.bytes) p.0) low p.1)

-- the lookup finds no code that stands in none of the places, and every other
pub absent-unfound : (us : List ℕ) (count x : ℕ) → count ≤ room_of us → not (is_some (found_in us count x)) ≡ absent x count us
unfolding is_user
absent-unfound us count x l =
    let u : Users = record { bytes = us; count = count } in
    by_cases (absent x count us) (λ e. rw (e, new-not-user u x (absent-at x count us e) l))
    (λ e. by_cases (is_user u x) (λ f. rw (e, f)) (λ f. clash (at-absent x count us (not-user u x l f)) e))

-- The tests of the code: a place at a time, and what is held ------------------------------------------------------------------

pub absent-step : (x left : ℕ) (s : List ℕ) (at : ℕ) → 0 < left
    → absent x left (drop at s) ≡ (not (eqb (get_or s at 0) x) && absent x (left - 1) (drop (at + 6) s))
unfolding absent
absent-step x left s at h =
    let e : left ≡ suc (left - 1) = omega arith in
    ap (λ (n : ℕ). absent x n (drop at s)) e ∙ rw (get_or-drop, add-zero, drop-drop)

pub places-step : (bound left : ℕ) (s : List ℕ) (at : ℕ) → 0 < left
    → places_formed bound left (drop at s)
    ≡ (ltb (get_or s (at + 5) 0) bound && (absent (get_or s at 0) (left - 1) (drop (at + 6) s)
    && places_formed bound (left - 1) (drop (at + 6) s)))
unfolding places_formed
places-step bound left s at h =
    let e : left ≡ suc (left - 1) = omega arith in
    ap (λ (n : ℕ). places_formed bound n (drop at s)) e ∙ simp (get_or-drop, add-zero, drop-drop)

-- where nothing is held; and with one byte more the held bytes from the next one up are 0
pub none-held : held_formed 0 (replicate 4 0) ≡ true
unfolding held_formed all_up_to
none-held = refl

pub next-held : (h : List ℕ) (n d : ℕ) → n < 4 → held_formed n h ≡ true → held_formed (n + 1) (set h n d) ≡ true
unfolding held_formed
next-held h n d l e =
    rw (le-leb (n + 1) 4 (omega arith), drop-set-lt (n + 1) h n d (omega arith), ← drop-drop 1 n h)
    (up-to-drop 0 1 (drop n h) (both (leb n 4) (all_up_to 0 (drop n h)) e).1)
