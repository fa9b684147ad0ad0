-- A place that goes when a code is defined (01; 02, W3): the code comes last with its new bytes, the others keep their order, and
-- nothing else is dropped. A place goes where the code is defined again, and where a new one finds all places in use.
use Prim.Native.Nat.{ℕ, ◌+◌, ◌-◌, ◌*◌, ◌<◌, ◌≤◌}
use mathlib.Core.Path.{◌≡◌, refl, sym, ap, ◌∙◌}
use mathlib.Core.List.{List}
use native.Mathlib.Omega.{arith}
use lib.ListN.{length, get_or, drop}
use lib.Seq.{ext_get_or, get_or-take, get_or-drop}
use borrow.Author.Tests.{le-ltb}
use Rattle.laws.proofs.Lists.{part_length}
use Rattle.std.specs.Prelude.{None, Some}
use Rattle.users.specs.declared.Users.{Users}
use Rattle.users.specs.Users.{room_of, found_of, place_at, six_of, put_of, users_in, leaving_of, removed, without}
use Rattle.users.specs.Users.{with_youngest, define_of}
use Rattle.users.proofs.Laws.{leaving-fits}
use Rattle.users.proofs.Removal.{came, removed-length, left_at}
use Rattle.users.proofs.Places.{limit-count, found-holds, put-length, put-else, put-there}

-- v is u with the place k taken out, and the code with its new bytes in the youngest place
pub record Replaced (u : Users) (k code : ℕ) (held : List ℕ) (last : ℕ) (v : Users) : Type 0 where
  pub count : v.count ≡ u.count
  pub older : (i : ℕ) → i < k → place_at v.bytes i ≡ place_at u.bytes i
  pub younger : (i : ℕ) → k ≤ i → i + 1 < u.count → place_at v.bytes i ≡ place_at u.bytes (i + 1)
  pub youngest : place_at v.bytes (u.count - 1) ≡ six_of code held last

-- six bytes, one by one
six-at : (a x : List ℕ) (i : ℕ) → i * 6 + 6 ≤ length a → length x ≡ 6 → ((j : ℕ) → j < 6 → get_or a (i * 6 + j) 0 ≡ get_or x j 0)
    → place_at a i ≡ x
six-at a x i h l f =
    let m = part_length (i * 6) 6 a h in
    ext_get_or 0 (place_at a i) x (m ∙ sym l)
    (λ j n. get_or-take 6 (drop (i * 6) a) j 0 (omega arith) ∙ get_or-drop (i * 6) a j 0 ∙ f j (omega arith))

module _ (u : Users) (k code : ℕ) (held : List ℕ) (last : ℕ) (l : u.count ≤ room_of u.bytes) (r : 0 < room_of u.bytes)
    (e : leaving_of u code ≡ Some k) where
  abbrev left : List ℕ
  left = removed k (u.count - 1) u.bytes

  abbrev after : List ℕ
  after = put_of left ((u.count - 1) * 6) code held last

  moved : define_of u code held last ≡ users_in after (u.count - 1 + 1)
  unfolding define_of with_youngest without
  moved = rw (e, limit-count u.bytes u.count l)

  in_use : k < u.count
  in_use =
      (leaving-fits u.bytes u.count code u.count (Some k) r (sym (limit-count u.bytes u.count l)) (sym e)).0

  there : (u.count - 1) * 6 + 6 ≤ length u.bytes
  unfolding room_of
  there = omega (arith, in_use)

  left-length : length left ≡ length u.bytes
  left-length = removed-length u.bytes k (u.count - 1) (omega (arith, in_use)) there

  after-length : length after ≡ length u.bytes
  after-length = put-length left ((u.count - 1) * 6) code held last ∙ left-length

  others : (i : ℕ) → i < u.count - 1 → place_at after i ≡ place_at u.bytes (came k i)
  others i h =
      let t = there in
      let g = part_length (came k i * 6) 6 u.bytes (omega arith) in
      six-at after (place_at u.bytes (came k i)) i (omega (arith, after-length)) g
      (λ j m. put-else left ((u.count - 1) * 6) code held last (i * 6 + j) (λ n _ y. omega arith)
      ∙ left_at u.bytes k (u.count - 1) (omega (arith, in_use)) there i j h m
      ∙ sym (get_or-take 6 (drop (came k i * 6) u.bytes) j 0 m ∙ get_or-drop (came k i * 6) u.bytes j 0))

  pub replaced : Replaced u k code held last (define_of u code held last)
  replaced =
      let f = in_use in
      rw moved (record {
        count = omega arith;
        older = λ i h. let g : came k i ≡ i = omega arith in others i (omega arith) ∙ ap (place_at u.bytes) g;
        younger = λ i h m. let g : came k i ≡ i + 1 = omega arith in others i (omega arith) ∙ ap (place_at u.bytes) g;
        youngest =
            six-at after (six_of code held last) (u.count - 1) (omega (arith, after-length, there)) refl
            (λ j. put-there left ((u.count - 1) * 6) code held last j (omega (arith, left-length, there)));
      })

-- a code defined again: its own place goes
pub again : (u : Users) (k code : ℕ) (held : List ℕ) (last : ℕ) → u.count ≤ room_of u.bytes → found_of u code ≡ Some k
    → Replaced u k code held last (define_of u code held last)
again u k code held last l e =
    replaced u k code held last l (omega (arith, found-holds u.bytes u.count l code k e)) (rw e)

-- a new code, with all places in use: the oldest goes
pub full : (u : Users) (code : ℕ) (held : List ℕ) (last : ℕ) → u.count ≡ room_of u.bytes → 0 < room_of u.bytes
    → found_of u code ≡ None → Replaced u 0 code held last (define_of u code held last)
full u code held last l r e =
    let m = limit-count u.bytes u.count (omega arith) in
    replaced u 0 code held last (omega arith) r (rw (e, m, le-ltb u.count (room_of u.bytes) (omega arith)))
