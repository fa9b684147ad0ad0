-- User characters (document 01, The condition; document 02, W3, W8): code and five bytes, oldest first, in places of six bytes, as
-- many as the bytes have room for: 16 in a condition, eight in that of the lounge module.
use Rattle.std.specs.Prelude.{ℕ, zero, suc, ◌+◌, ◌-◌, ◌*◌, ◌/◌, min, Option, None, Some, List, [], ◌∷◌, ◌++◌, Bool, true, false}
use Rattle.std.specs.Prelude.{cond, not, ◌&&◌}
use Rattle.std.specs.Option.{is_some}
use Rattle.std.specs.Prelude.{length, get_or, take, drop, replicate, eqb, ltb, leb}
use Rattle.std.proofs.lemmas.List.Edits.{sets}
use Rattle.row.specs.Row.{all_up_to}
use Rattle.users.specs.declared.Users.{Users}
use Rattle.dots.specs.declared.Character.{Character}

-- the first of the n places from k on that holds the code
abbrev pub place_of : List ℕ → ℕ → ℕ → ℕ → Option ℕ
place_of us code zero k = None
place_of us code (suc n) k = cond (eqb (get_or us (k * 6) 0) code) (Some k) (place_of us code n (k + 1))

-- how many places the bytes have room for, and no more than a byte counts
unfoldable pub room_of : List ℕ → ℕ
room_of us = min 255 (length us / 6)

-- as many places as are in use, and no more than there is room for
unfoldable pub limit_of : List ℕ → ℕ → ℕ
limit_of us count = min count (room_of us)

-- the lookup of a code
unfoldable pub found_in : List ℕ → ℕ → ℕ → Option ℕ
found_in us count code = place_of us code (limit_of us count) 0

abbrev pub found_of : Users → ℕ → Option ℕ
found_of u code = found_in u.bytes u.count code

-- a user character sits on the code
unfoldable pub is_user : Users → ℕ → Bool
is_user u code = is_some (found_of u code)

abbrev pub five_zeros : Character
five_zeros = record { d1 = 0; d2 = 0; d3 = 0; d4 = 0; d5 = 0 }

-- the five bytes at a place; a place that is not there has five 0
unfoldable pub character_at : List ℕ → ℕ → Character
character_at us k =
    cond (leb (length us / 6) k) five_zeros
    (record {
      d1 = get_or us (k * 6 + 1) 0;
      d2 = get_or us (k * 6 + 2) 0;
      d3 = get_or us (k * 6 + 3) 0;
      d4 = get_or us (k * 6 + 4) 0;
      d5 = get_or us (k * 6 + 5) 0;
    })

-- the six bytes of a place: its code and its five bytes
abbrev pub place_at : List ℕ → ℕ → List ℕ
place_at us k = take 6 (drop (k * 6) us)

-- a code and its five bytes, four of them held; the fifth is `last`, as it is to be kept
abbrev pub six_of : ℕ → List ℕ → ℕ → List ℕ
six_of code held last = code ∷ get_or held 0 0 ∷ get_or held 1 0 ∷ get_or held 2 0 ∷ get_or held 3 0 ∷ last ∷ []

-- these six from `at` on
unfoldable pub put_of : List ℕ → ℕ → ℕ → List ℕ → ℕ → List ℕ
put_of us at code held last = sets us at (six_of code held last)

abbrev pub users_in : List ℕ → ℕ → Users
users_in us count = record { bytes = us; count = count }

-- no more in use than there is room for
abbrev pub in_room : Users → Users
in_room u = users_in u.bytes (limit_of u.bytes u.count)

-- The place that goes when a code is defined: the code's own; where it has none, with all places in use, the oldest
abbrev pub leaving_by : Option ℕ → Users → Option ℕ
leaving_by (Some k) u = Some k
leaving_by None u = cond (ltb u.count (room_of u.bytes)) None (Some 0)

abbrev pub leaving_of : Users → ℕ → Option ℕ
leaving_of u code = leaving_by (found_of u code) (in_room u)

-- the place k taken out of those up to the youngest: what stands before it, what stands after it, a place of 0, and the rest
unfoldable pub removed : ℕ → ℕ → List ℕ → List ℕ
removed k youngest us =
    take (k * 6) us ++ take ((youngest - k) * 6) (drop (k * 6 + 6) us) ++ replicate 6 0 ++ drop (youngest * 6 + 6) us

-- without the place that goes: those after it are each one place earlier, so that no gap is left
unfoldable pub without : Option ℕ → Users → Users
without None u = u
without (Some k) u = users_in (removed k (u.count - 1) u.bytes) (u.count - 1)

-- the code with its five bytes comes last, the youngest
unfoldable pub with_youngest : Users → ℕ → List ℕ → ℕ → Users
with_youngest u code held last = users_in (put_of u.bytes (u.count * 6) code held last) (u.count + 1)

-- 43h code d1..d5. 01: a new one is youngest; with 16 held the oldest goes. 02, W3: a code defined again moves to the youngest
-- place with its new bytes
unfoldable pub define_of : Users → ℕ → List ℕ → ℕ → Users
define_of u code held last = with_youngest (without (leaving_of u code) (in_room u)) code held last

-- the same on lent bytes; bytes that have no room for a place stay as they are
unfoldable pub define_in : List ℕ → ℕ → ℕ → List ℕ → ℕ → Users
define_in us count code held last =
    cond (ltb (length us) 6) (users_in us count) (define_of (users_in us count) code held last)

-- Well formed: no code twice, each fifth byte in range, every unused place 0
-- -------------------------------------------------------

-- the code x stands in none of the first n places of six bytes
unfoldable pub absent : ℕ → ℕ → List ℕ → Bool
absent x zero l = true
absent x (suc n) l = not (eqb (get_or l 0 0) x) && absent x n (drop 6 l)

-- user codes distinct, each fifth byte below the bound, over the first n places; the other places are 0
unfoldable pub places_formed : ℕ → ℕ → List ℕ → Bool
places_formed bound zero l = all_up_to 0 l
places_formed bound (suc n) l =
    ltb (get_or l 5 0) bound && (absent (get_or l 0 0) n (drop 6 l) && places_formed bound n (drop 6 l))

-- the same of any bytes: more than there is room for are never formed
unfoldable pub users_formed : ℕ → List ℕ → ℕ → Bool
users_formed bound us count = leb count (room_of us) && places_formed bound count us

-- 0 to 4 bytes are held of a user character that is being received, and the held bytes from the count up are 0
unfoldable pub held_formed : ℕ → List ℕ → Bool
held_formed n h = leb n 4 && all_up_to 0 (drop n h)
