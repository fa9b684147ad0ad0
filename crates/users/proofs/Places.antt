-- Places of six bytes: where a code stands, what a put changes, and that a definition keeps them well formed.
use Prim.Native.Nat.{ℕ, zero, suc, ◌+◌, ◌-◌, ◌*◌, ◌<◌, ◌≤◌}
use mathlib.Core.Path.{◌≡◌, refl, sym, ◌∙◌}
use mathlib.Core.List.{List}
use mathlib.Core.Bool.{true, false}
use native.Mathlib.Omega.{arith}
use native.Mathlib.Nat.{add-zero}
use lib.ListN.{length, get_or}
use lib.Seq.{length-sets}
use lib.Dec.{eqb}
use borrow.Author.Tests.{eqb-true, eqb-false}
use Rattle.laws.proofs.Tests.{by_cases, by-test, by_equal}
use Rattle.laws.proofs.Lists.{sets-else, sets-there}
use Rattle.users.specs.declared.Users.{Users}
use Rattle.std.specs.Prelude.{Option, None, Some}
use Rattle.std.specs.Option.{is_some}
use Rattle.users.specs.Users.{place_of, room_of, limit_of, found_in, found_of, is_user, six_of, put_of}
use Rattle.users.specs.Users.{users_in, in_room, leaving_of, removed, without, with_youngest, define_of}
use Rattle.users.proofs.Removal.{came, removed-length, left_at, rest_at}
use Rattle.users.proofs.Laws.{found_below, by-leaving, Fits, leaving-fits}

-- Sizes ------------------------------------------------------------------------------------------------------------------------

pub put-length : (us : List ℕ) (at code : ℕ) (held : List ℕ) (last : ℕ) → length (put_of us at code held last) ≡ length us
unfolding put_of
put-length us at code held last = length-sets us at (six_of code held last)

-- the bytes of n places have room for n
pub room_for : (us : List ℕ) (n : ℕ) → length us ≡ n * 6 → n ≤ 255 → room_of us ≡ n
unfolding room_of
room_for us n h l = omega arith

-- Where the lookup finds a code ---------------------------------------------------------------------------------------------

pub place-holds : (us : List ℕ) (code n k j : ℕ) → place_of us code n k ≡ Some j → get_or us (j * 6) 0 ≡ code
place-holds us code zero k j e = cc
place-holds us code (suc n) k j e =
    by-test (λ (f : Option ℕ). f ≡ Some j → get_or us (j * 6) 0 ≡ code) (eqb (get_or us (k * 6) 0) code)
    (λ h f. let z : j ≡ k = cc in rw z (eqb-true (get_or us (k * 6) 0) code h))
    (λ _ f. place-holds us code n (k + 1) j f)
    e

pub place-misses : (us : List ℕ) (code n k i : ℕ)
    → place_of us code n k ≡ None → k ≤ i → i < k + n → get_or us (i * 6) 0 ≡ code → ⊥
place-misses us code zero k i e h l f = omega arith
place-misses us code (suc n) k i e h l f =
    by-test (λ (g : Option ℕ). g ≡ None → ⊥) (eqb (get_or us (k * 6) 0) code) (λ _ m. let y : ◌≡◌ {A = ℕ} 0 1 = cc in omega arith)
    (λ z m.
    let y : i ≡ k → ⊥ = λ d. eqb-false (get_or us (k * 6) 0) code z (rw d at f) in
    place-misses us code n (k + 1) i m (omega arith) (omega arith) f)
    e

-- As many as there is room for ------------------------------------------------------------------------------------------------

module _ (us : List ℕ) (count : ℕ) (l : count ≤ room_of us) where
  pub limit-count : limit_of us count ≡ count
  unfolding limit_of
  limit-count = omega arith

  pub found-holds : (code j : ℕ) → found_in us count code ≡ Some j → (j < count) × (get_or us (j * 6) 0 ≡ code)
  unfolding found_in
  found-holds code j e =
      (omega (arith, found_below us count code j e, limit-count), place-holds us code (limit_of us count) 0 j e)

  pub found-misses : (code : ℕ) → found_in us count code ≡ None → (i : ℕ) → i < count → get_or us (i * 6) 0 ≡ code → ⊥
  unfolding found_in
  found-misses code e i m = place-misses us code (limit_of us count) 0 i e (omega arith) (omega (arith, limit-count))

-- What a put leaves and what it writes --------------------------------------------------------------------------------------

module _ (us : List ℕ) (at code : ℕ) (held : List ℕ) (last : ℕ) where
  pub put-else : (i : ℕ) → ((j : ℕ) → j < 6 → i ≡ at + j → ⊥) → get_or (put_of us at code held last) i 0 ≡ get_or us i 0
  unfolding put_of
  put-else = sets-else us at (six_of code held last)

  pub put-there : (j : ℕ) → at + 6 ≤ length us → j < 6
      → get_or (put_of us at code held last) (at + j) 0 ≡ get_or (six_of code held last) j 0
  unfolding put_of
  put-there = sets-there us at (six_of code held last)

-- the code of a place, where one was taken out
code-left : (us : List ℕ) (k youngest : ℕ) (h : k ≤ youngest) (l : youngest * 6 + 6 ≤ length us) (i : ℕ) → i < youngest
    → get_or (removed k youngest us) (i * 6) 0 ≡ get_or us (came k i * 6) 0
code-left us k youngest h l i m = simp add-zero at (left_at us k youngest h l i 0 m (omega arith))

-- Well-formed places: each fifth byte below a bound, codes distinct, the rest 0 ---------------------------------------------------

pub record Places (bound n : ℕ) (l : List ℕ) : Type 0 where
  pub fifth : (i : ℕ) → i < n → get_or l (i * 6 + 5) 0 < bound
  pub apart : (i j : ℕ) → i < n → j < n → get_or l (i * 6) 0 ≡ get_or l (j * 6) 0 → i ≡ j
  pub rest : (i : ℕ) → n * 6 ≤ i → get_or l i 0 ≡ 0

-- a code that stands in none of the places
abbrev pub New : ℕ → ℕ → List ℕ → Type 0
New code n l = (i : ℕ) → i < n → get_or l (i * 6) 0 ≡ code → ⊥

-- one place taken out of those up to the youngest
removed-places : (bound n k youngest : ℕ) (l : List ℕ) → Places bound n l → n ≡ youngest + 1
    → (h : k ≤ youngest) (m : youngest * 6 + 6 ≤ length l) → Places bound youngest (removed k youngest l)
removed-places bound n k youngest l p e h m =
    record {
      fifth = λ i g. rw (left_at l k youngest h m i 5 g (omega arith)) (p.fifth (came k i) (omega arith));
      apart =
          λ i j g f d.
          let same = sym (code-left l k youngest h m i g) ∙ d ∙ code-left l k youngest h m j f in
          omega (arith, p.apart (came k i) (came k j) (omega arith) (omega arith) same);
      rest = rest_at l k youngest h m (λ i g. p.rest i (omega arith));
    }

-- a code put last
module _ (n code : ℕ) (l held : List ℕ) (last : ℕ) (in-l : n * 6 + 6 ≤ length l) where
  code-there : get_or (put_of l (n * 6) code held last) (n * 6) 0 ≡ code
  code-there = simp add-zero at (put-there l (n * 6) code held last 0 in-l (omega arith))

  code-else : (i : ℕ) → i < n → get_or (put_of l (n * 6) code held last) (i * 6) 0 ≡ get_or l (i * 6) 0
  code-else i h = put-else l (n * 6) code held last (i * 6) (λ j m e. omega arith)

  put-places : (bound : ℕ) → Places bound n l → New code n l → last < bound → Places bound (n + 1) (put_of l (n * 6) code held last)
  put-places bound p new low =
      record {
        fifth =
            λ i h. by_equal i n (λ e. rw (e, put-there l (n * 6) code held last 5 in-l (omega arith)) low)
            (λ d. rw (put-else l (n * 6) code held last (i * 6 + 5) (λ j m e. omega arith)) (p.fifth i (omega arith)));
        apart =
            λ i j h m e. by_equal i n
            (λ y. by_equal j n (λ z. omega arith)
            (λ z. absurd (new j (omega arith) (sym (code-else j (omega arith)) ∙ sym e ∙ rw y code-there))))
            (λ y. by_equal j n (λ z. absurd (new i (omega arith) (sym (code-else i (omega arith)) ∙ e ∙ rw z code-there)))
            (λ z. p.apart i j (omega arith) (omega arith)
            (sym (code-else i (omega arith)) ∙ e ∙ code-else j (omega arith))));
        rest = λ i h. put-else l (n * 6) code held last i (λ j m e. omega arith) ∙ p.rest i (omega arith);
      }

-- A user character that is defined keeps the places well formed -----------------------------------------------------------------

-- places ready for a code: well formed, none of them with the code, and room for one more
record Ready (bound code : ℕ) (u : Users) : Type 0 where
  places : Places bound u.count u.bytes
  new : New code u.count u.bytes
  fits : u.count * 6 + 6 ≤ length u.bytes

module _ (bound : ℕ) (us : List ℕ) (count code : ℕ) (l : count ≤ room_of us) (p : Places bound count us) where
  -- the place k is taken out, and no other has the code
  ready_at : (k : ℕ) → k < count → ((i : ℕ) → i < count → get_or us (i * 6) 0 ≡ code → i ≡ k)
      → Ready bound code (without (Some k) (users_in us count))
  unfolding without room_of
  ready_at k h only =
      let youngest = count - 1 in
      let f : k ≤ youngest = omega arith in
      let m : youngest * 6 + 6 ≤ length us = omega arith in
      record {
        places = removed-places bound count k youngest us p (omega arith) f m;
        new = λ i g y. omega (arith, only (came k i) (omega arith) (sym (code-left us k youngest f m i g) ∙ y));
        fits = rw (removed-length us k youngest f m) m;
      }

  ready : 0 < room_of us → Ready bound code (without (leaving_of (users_in us count) code) (in_room (users_in us count)))
  unfolding without room_of
  ready r =
      rw (limit-count us count l)
      (by-leaving (users_in us count) (λ (f : Option ℕ). Ready bound code (without f (users_in us count)))
      (found_in us count code)
      (λ k e. let f = found-holds us count l code k e in ready_at k f.0 (λ i m y. p.apart i k m f.0 (y ∙ sym f.1)))
      (λ e m. record { places = p; new = found-misses us count l code e; fits = omega arith })
      (λ e m. ready_at 0 (omega arith) (λ i n y. absurd (found-misses us count l code e i n y))))

pub define-places : (bound : ℕ) (u : Users) (code : ℕ) → u.count ≤ room_of u.bytes → Places bound u.count u.bytes
    → (held : List ℕ) (last : ℕ) → 0 < room_of u.bytes → last < bound
    → Places bound (define_of u code held last).count (define_of u code held last).bytes
unfolding define_of with_youngest
define-places bound u code l p held last r low =
    let m = ready bound u.bytes u.count code l p r in
    put-places _ code _ held last m.fits bound m.places m.new low

-- How many there are then, and in how many bytes ----------------------------------------------------------------------------------

without-fits : (u : Users) (f : Option ℕ) → Fits u.bytes u.count f
    → ((without f u).count < room_of u.bytes) × (length (without f u).bytes ≡ length u.bytes)
unfolding without room_of
without-fits u (Some k) h = (omega arith, removed-length u.bytes k (u.count - 1) (omega arith) (omega arith))
without-fits u None h = (h, refl)

left-fits : (u : Users) (code : ℕ) → 0 < room_of u.bytes
    → ((without (leaving_of u code) (in_room u)).count < room_of u.bytes)
    × (length (without (leaving_of u code) (in_room u)).bytes ≡ length u.bytes)
left-fits u code r = without-fits (in_room u) (leaving_of u code) (leaving-fits u.bytes u.count code _ _ r refl refl)

pub define-most : (u : Users) (code : ℕ) (held : List ℕ) (last : ℕ) → 0 < room_of u.bytes
    → (define_of u code held last).count ≤ room_of u.bytes
unfolding define_of with_youngest
define-most u code held last r = omega (arith, (left-fits u code r).0)

pub define-length : (u : Users) (code : ℕ) (held : List ℕ) (last : ℕ) → 0 < room_of u.bytes
    → length (define_of u code held last).bytes ≡ length u.bytes
unfolding define_of with_youngest
define-length u code held last r = put-length _ _ code held last ∙ (left-fits u code r).1

-- a code on which no user character sits stands in no place
pub not-user : (u : Users) (code : ℕ) → u.count ≤ room_of u.bytes → is_user u code ≡ false → New code u.count u.bytes
unfolding is_user
not-user u code l e = found-misses u.bytes u.count l code (missing (found_of u code) e)
  where
    missing : (f : Option ℕ) → is_some f ≡ false → f ≡ None
    missing None d = refl
    missing (Some k) d = cc

-- and on one that stands in no place none sits
pub new-not-user : (u : Users) (x : ℕ) → New x u.count u.bytes → u.count ≤ room_of u.bytes → is_user u x ≡ false
unfolding is_user
new-not-user u x new l = go (found_of u x) refl
  where
    go : (f : Option ℕ) → found_of u x ≡ f → is_some f ≡ false
    go None e = refl
    go (Some k) e = let p = found-holds u.bytes u.count l x k e in absurd (new k p.0 p.1)

-- On which codes user characters sit then -----------------------------------------------------------------------------------------

-- a code that stands in no place stands in none of those that are left
without-new : (u : Users) (x : ℕ) (f : Option ℕ) → Fits u.bytes u.count f → New x u.count u.bytes
    → New x (without f u).count (without f u).bytes
unfolding without room_of
without-new u x (Some k) h new =
    λ i m y. new (came k i) (omega arith) (sym (code-left u.bytes k (u.count - 1) (omega arith) (omega arith) i m) ∙ y)
without-new u x None h new = new

module _ (u : Users) (code : ℕ) (held : List ℕ) (last : ℕ) (r : 0 < room_of u.bytes) where
  abbrev left : Users
  left = without (leaving_of u code) (in_room u)

  in_left : left.count * 6 + 6 ≤ length left.bytes
  unfolding room_of
  in_left = omega (arith, (left-fits u code r).0, (left-fits u code r).1)

  defined-most : (define_of u code held last).count ≤ room_of (define_of u code held last).bytes
  unfolding room_of
  defined-most = rw (define-length u code held last r) (define-most u code held last r)

  -- on the code that is defined
  pub defined-user : is_user (define_of u code held last) code ≡ true
  unfolding define_of with_youngest
  defined-user =
      by_cases (is_user (define_of u code held last) code) (λ e. e)
      (λ e. absurd (not-user (define_of u code held last) code defined-most e left.count (omega arith)
      (code-there left.count code left.bytes held last in_left)))

  -- and on no other on which none sat
  pub other-user : (x : ℕ) → (x ≡ code → ⊥) → u.count ≤ room_of u.bytes → is_user u x ≡ false
      → is_user (define_of u code held last) x ≡ false
  unfolding define_of with_youngest
  other-user x other l e =
      new-not-user (define_of u code held last) x
      (λ i m y. by_equal i left.count
      (λ z. other (sym y ∙ rw z (code-there left.count code left.bytes held last in_left)))
      (λ z. gone i (omega arith) (sym (code-else left.count code left.bytes held last in_left i (omega arith)) ∙ y)))
      defined-most
    where
      gone : New x left.count left.bytes
      gone =
          without-new (in_room u) x (leaving_of u code) (leaving-fits u.bytes u.count code _ _ r refl refl)
          (rw (limit-count u.bytes u.count l) (not-user u x l e))
