-- What a store to a byte, or to a part, makes of the condition that stands there.
use Prim.Native.Nat.{ℕ, zero, suc, ◌+◌, ◌≤◌, ◌<◌}
use mathlib.Core.Path.{◌≡◌, refl, ap, sym, ◌∙◌, subst}
use mathlib.Core.List.{List, [], ◌∷◌, ◌++◌, append_assoc}
use native.Mathlib.Omega.{arith}
use lib.Dec.{eqb}
use borrow.Author.Tests.{le-ltb}
use lib.ListN.{length, get_or, take, drop, set, replicate}
use lib.Seq.{take_at, drop_at}
use Rattle.row.specs.Row.{on_picture}
use Rattle.row.proofs.Laws.{on-picture}
use Rattle.users.specs.Users.{users_in, define_in}
use Rattle.condition.specs.declared.Condition.{Condition}
use Rattle.condition.specs.Condition.{power_up}
use Rattle.condition.specs.Set.{with_cursor, with_scrolling, with_shown, with_font, with_euro, with_luminance, with_speed}
use Rattle.condition.specs.Set.{with_flickerless, with_users, with_pending, with_cells, go_to}
use Rattle.condition.specs.Bytes.{mode_of, international_of}
use Rattle.layout.specs.Layout.{condition_in, pending_of}
use Rattle.laws.proofs.Lists.{part_length, gets, bytewise, Each, each}
use Rattle.layout.proofs.Parts.{cut_parts, in-codes, past-codes, past-fonts, up-to-fonts, in-fonts, in-users}
use Rattle.inplace.specs.InPlace.{blank_of, held_in, released_in, reset_in, with_user_bytes, defined_in}

-- stores f, among the first 24 bytes, make g of the condition
abbrev Makes : (List ℕ → List ℕ) → (Condition → Condition) → List ℕ → Type 0
Makes f g l = condition_in (f l) ≡ g (condition_in l)

stored : (f : List ℕ → List ℕ) (g : Condition → Condition) → Each 24 (Makes f g) → (s : List ℕ) → 200 ≤ length s → Makes f g s
stored f g e s h = each 24 (Makes f g) e s (omega arith)

-- Stores to a byte ---------------------------------------------------------------------------------------------------------

pub cursor-in : (s : List ℕ) (x : ℕ) → 200 ≤ length s → condition_in (set s 3 x) ≡ with_cursor (condition_in s) x
unfolding condition_in
cursor-in s x h = stored (λ (l : List ℕ). set l 3 x) (λ (k : Condition). with_cursor k x) (search) s h

pub go-in : (s : List ℕ) (x : ℕ) → 200 ≤ length s → condition_in (set (set s 3 x) 5 0) ≡ go_to (condition_in s) x
unfolding condition_in
go-in s x h = stored (λ (l : List ℕ). set (set l 3 x) 5 0) (λ (k : Condition). go_to k x) (search) s h

pub scrolling-in : (s : List ℕ) (v : ℕ) → 200 ≤ length s → condition_in (set s 5 v) ≡ with_scrolling (condition_in s) (eqb v 1)
unfolding condition_in
scrolling-in s v h = stored (λ (l : List ℕ). set l 5 v) (λ (k : Condition). with_scrolling k (eqb v 1)) (search) s h

pub mode-in : (s : List ℕ) (m : ℕ) → 200 ≤ length s → condition_in (set (set s 4 m) 5 0) ≡ mode_of (condition_in s) m
unfolding condition_in
mode-in s m h = stored (λ (l : List ℕ). set (set l 4 m) 5 0) (λ (k : Condition). mode_of k m) (search) s h

pub shown-in : (s : List ℕ) (v : ℕ) → 200 ≤ length s → condition_in (set s 6 v) ≡ with_shown (condition_in s) (eqb v 1)
unfolding condition_in
shown-in s v h = stored (λ (l : List ℕ). set l 6 v) (λ (k : Condition). with_shown k (eqb v 1)) (search) s h

pub international-in : (s : List ℕ) → 200 ≤ length s → condition_in (set (set s 7 0) 9 0) ≡ international_of (condition_in s)
unfolding condition_in
international-in s h = stored (λ (l : List ℕ). set (set l 7 0) 9 0) (λ (k : Condition). international_of k) (search) s h

pub font-in : (s : List ℕ) (f : ℕ) → 200 ≤ length s → condition_in (set s 7 f) ≡ with_font (condition_in s) f
unfolding condition_in
font-in s f h = stored (λ (l : List ℕ). set l 7 f) (λ (k : Condition). with_font k f) (search) s h

pub euro-in : (s : List ℕ) (v : ℕ) → 200 ≤ length s → condition_in (set s 9 v) ≡ with_euro (condition_in s) (eqb v 1)
unfolding condition_in
euro-in s v h = stored (λ (l : List ℕ). set l 9 v) (λ (k : Condition). with_euro k (eqb v 1)) (search) s h

pub luminance-in : (s : List ℕ) (v : ℕ) → 200 ≤ length s → condition_in (set s 10 v) ≡ with_luminance (condition_in s) v
unfolding condition_in
luminance-in s v h = stored (λ (l : List ℕ). set l 10 v) (λ (k : Condition). with_luminance k v) (search) s h

pub speed-in : (s : List ℕ) (v : ℕ) → 200 ≤ length s → condition_in (set s 11 v) ≡ with_speed (condition_in s) v
unfolding condition_in
speed-in s v h = stored (λ (l : List ℕ). set l 11 v) (λ (k : Condition). with_speed k v) (search) s h

pub flickerless-in : (s : List ℕ) (v : ℕ) → 200 ≤ length s → condition_in (set s 12 v) ≡ with_flickerless (condition_in s) (eqb v 1)
unfolding condition_in
flickerless-in s v h = stored (λ (l : List ℕ). set l 12 v) (λ (k : Condition). with_flickerless k (eqb v 1)) (search) s h

pub pending-in : (s : List ℕ) (p a n : ℕ) → 200 ≤ length s
    → condition_in (set (set (set s 13 p) 14 a) 15 n) ≡ with_pending (condition_in s) (pending_of p a n)
unfolding condition_in
pending-in s p a n h =
    stored (λ (l : List ℕ). set (set (set l 13 p) 14 a) 15 n)
    (λ (k : Condition). with_pending k (pending_of p a n)) (search) s h

-- how many user characters there are
abbrev with_count : Condition → ℕ → Condition
with_count c n = with_users c (users_in c.users.bytes n)

pub count-in : (s : List ℕ) (n : ℕ) → 200 ≤ length s → condition_in (set s 20 n) ≡ with_count (condition_in s) n
unfolding condition_in
count-in s n h = stored (λ (l : List ℕ). set l 20 n) (λ (k : Condition). with_count k n) (search) s h

pub ruleset stores = (
  cursor-in,
  go-in,
  scrolling-in,
  mode-in,
  shown-in,
  international-in,
  font-in,
  euro-in,
  luminance-in,
  speed-in,
  flickerless-in,
  pending-in,
  count-in,
)

-- a byte among the four held
pub hold-in : (s : List ℕ) (n d : ℕ) → n < 4 → 200 ≤ length s → condition_in (set s (16 + n) d) ≡ held_in (condition_in s) n d
unfolding condition_in
hold-in s n d l h = stored (λ (l : List ℕ). set l (16 + n) d) (λ (k : Condition). held_in k n d) (at n l) s h
  where
    at : (n : ℕ) → n < 4 → Each 24 (Makes (λ (l : List ℕ). set l (16 + n) d) (λ (k : Condition). held_in k n d))
    at zero l = search
    at (suc zero) l = search
    at (suc (suc zero)) l = search
    at (suc (suc (suc zero))) l = search
    at (suc (suc (suc (suc n)))) l = let z : ⊥ = omega arith in absurd z

-- the bytes held, one by one
pub held-in : (s : List ℕ) → 200 ≤ length s
    → (condition_in s).held ≡ get_or s 16 0 ∷ get_or s 17 0 ∷ get_or s 18 0 ∷ get_or s 19 0 ∷ []
unfolding condition_in
held-in s h =
    each 24 (λ (s : List ℕ). (condition_in s).held ≡ get_or s 16 0 ∷ get_or s 17 0 ∷ get_or s 18 0 ∷ get_or s 19 0 ∷ [])
    (search) s (omega arith)

-- Fields, read at their bytes ------------------------------------------------------------------------------------------------

pub cursor-at : (s : List ℕ) → (condition_in s).cursor ≡ get_or s 3 0
unfolding condition_in
cursor-at s = refl

pub cursor-by : (s : List ℕ) (k : Condition) → condition_in s ≡ k → get_or s 3 0 ≡ k.cursor
unfolding condition_in
cursor-by s k e = ap (λ (c : Condition). c.cursor) e

pub mode-at : (s : List ℕ) → (condition_in s).mode ≡ get_or s 4 0
unfolding condition_in
mode-at s = refl

pub scrolling-at : (s : List ℕ) → (condition_in s).scrolling ≡ eqb (get_or s 5 0) 1
unfolding condition_in
scrolling-at s = refl

pub font-at : (s : List ℕ) → (condition_in s).font ≡ get_or s 7 0
unfolding condition_in
font-at s = refl

pub link_at : (s : List ℕ) → (condition_in s).link ≡ get_or s 8 0
unfolding condition_in
link_at s = refl

pub flickerless-at : (s : List ℕ) → (condition_in s).flickerless ≡ eqb (get_or s 12 0) 1
unfolding condition_in
flickerless-at s = refl

pub pending-at : (s : List ℕ) → (condition_in s).pending ≡ pending_of (get_or s 13 0) (get_or s 14 0) (get_or s 15 0)
unfolding condition_in
pending-at s = refl

pub users-at : (s : List ℕ) → (condition_in s).users ≡ users_in (take 96 (drop 104 s)) (get_or s 20 0)
unfolding condition_in
users-at s = refl

pub ruleset reads = (cursor-at, mode-at, scrolling-at, font-at, link_at, flickerless-at, pending-at, users-at)

-- Stores to a part ---------------------------------------------------------------------------------------------------------

-- a part of n bytes from a on, replaced by x
abbrev pub spliced : ℕ → ℕ → List ℕ → List ℕ → List ℕ
spliced a n s x = take a s ++ (x ++ drop n (drop a s))

-- a property of a block's bytes, by its head and its parts
each_part : (P : List ℕ → Type 0) (s : List ℕ) → 200 ≤ length s
    → ((p q w z : List ℕ) → length p ≡ 40 → length q ≡ 40 → length w ≡ 96 → P (gets 24 0 s ++ (p ++ (q ++ (w ++ z))))) → P s
each_part P s h f =
    let whole : gets 24 0 s ++ (take 40 (drop 24 s) ++ (take 40 (drop 64 s) ++ (take 96 (drop 104 s) ++ drop 200 s))) ≡ s =
    sym (bytewise 24 0 s (omega arith) ∙ ap (λ (l : List ℕ). gets 24 0 s ++ l) (cut_parts 24 s)) in
    subst P whole
    (f (take 40 (drop 24 s)) (take 40 (drop 64 s)) (take 96 (drop 104 s)) (drop 200 s)
    (part_length 24 40 s (omega arith)) (part_length 64 40 s (omega arith)) (part_length 104 96 s (omega arith)))

-- the cells, codes and fonts, replaced
cells_in : (s x y : List ℕ) → 200 ≤ length s → length x ≡ 40 → length y ≡ 40
    → condition_in (spliced 64 40 (spliced 24 40 s x) y) ≡ with_cells (condition_in s) x y
unfolding condition_in
cells_in s x y h hx hy =
    each_part (λ (s : List ℕ). condition_in (spliced 64 40 (spliced 24 40 s x) y) ≡ with_cells (condition_in s) x y) s h
    (λ p q w z hp hq hw. rw (
      past-codes p q w z hp hq hw,
      in-codes x q w z hx hq hw,
      past-codes x q w z hx hq hw,
      drop_at q (w ++ z) 40 hq,
      in-codes x y w z hx hy hw,
      in-fonts x y w z hx hy hw,
      in-users x y w z hx hy hw,
      in-users p q w z hp hq hw,
    ))

fonts-kept : (s x : List ℕ) → 200 ≤ length s → length x ≡ 40 → take 40 (drop 64 (spliced 24 40 s x)) ≡ take 40 (drop 64 s)
fonts-kept s x h hx =
    each_part (λ (s : List ℕ). take 40 (drop 64 (spliced 24 40 s x)) ≡ take 40 (drop 64 s)) s h
    (λ p q w z hp hq hw.
    rw (past-codes p q w z hp hq hw, in-fonts x q w z hx hq hw) (sym (take_at q (w ++ z) 40 hq)))

users-in : (s x : List ℕ) → 200 ≤ length s → length x ≡ 96 → condition_in (spliced 104 96 s x) ≡ with_user_bytes (condition_in s) x
unfolding condition_in
users-in s x h hx =
    each_part (λ (s : List ℕ). condition_in (spliced 104 96 s x) ≡ with_user_bytes (condition_in s) x) s h
    (λ p q w z hp hq hw. rw (
      up-to-fonts p q w z hp hq hw,
      past-fonts p q w z hp hq hw,
      drop_at w z 96 hw,
      append_assoc p q (x ++ z),
      in-codes p q x z hp hq hx,
      in-fonts p q x z hp hq hx,
      in-users p q x z hp hq hx,
      in-codes p q w z hp hq hw,
      in-fonts p q w z hp hq hw,
    ))

-- codes and fonts, each changed by its own rule
pub cells-by : (f g : List ℕ → List ℕ) (s x y : List ℕ) → 200 ≤ length s → length x ≡ 40 → length y ≡ 40
    → x ≡ f (take 40 (drop 24 s)) → y ≡ g (take 40 (drop 64 (spliced 24 40 s x)))
    → condition_in (spliced 64 40 (spliced 24 40 s x) y)
    ≡ with_cells (condition_in s) (f (condition_in s).codes) (g (condition_in s).fonts)
unfolding condition_in
cells-by f g s x y h hx hy p q =
    let k : y ≡ g (take 40 (drop 64 s)) = q ∙ ap g (fonts-kept s x h hx) in
    cells_in s x y h hx hy ∙ rw (p, k)

-- the same by rules for pictures
pub pictures-by : (f g : List ℕ → List ℕ) (s x y : List ℕ) → 200 ≤ length s → length x ≡ 40 → length y ≡ 40
    → x ≡ on_picture f (take 40 (drop 24 s)) → y ≡ on_picture g (take 40 (drop 64 (spliced 24 40 s x)))
    → condition_in (spliced 64 40 (spliced 24 40 s x) y)
    ≡ with_cells (condition_in s) (f (condition_in s).codes) (g (condition_in s).fonts)
pictures-by f g s x y h hx hy p q =
    cells-by f g s x y h hx hy
    (p ∙ on-picture f _ (part_length 24 40 s (omega arith)))
    (q ∙ rw (fonts-kept s x h hx) (on-picture g _ (part_length 64 40 s (omega arith))))

-- both cleared
pub blank-by : (s x y : List ℕ) (f : ℕ) → 200 ≤ length s → length x ≡ 40 → length y ≡ 40
    → x ≡ replicate (length (take 40 (drop 24 s))) 0x20 → y ≡ replicate (length (take 40 (drop 64 (spliced 24 40 s x)))) f
    → condition_in (spliced 64 40 (spliced 24 40 s x) y) ≡ blank_of (condition_in s) f
blank-by s x y f h hx hy p q =
    cells-by (λ (l : List ℕ). replicate 40 0x20) (λ (l : List ℕ). replicate 40 f) s x y h hx hy
    (p ∙ rw (part_length 24 40 s (omega arith)))
    (q ∙ rw (fonts-kept s x h hx, part_length 64 40 s (omega arith)))

-- the user characters' bytes, all 0
pub forget-by : (s x : List ℕ) → 200 ≤ length s → length x ≡ 96 → x ≡ replicate (length (take 96 (drop 104 s))) 0
    → condition_in (spliced 104 96 s x) ≡ with_user_bytes (condition_in s) (replicate 96 0)
forget-by s x h hx p =
    users-in s x h hx ∙ rw (p, part_length 104 96 s (omega arith))

-- the user characters' bytes and count after a definition
pub define-by : (s x : List ℕ) (n code last : ℕ) → 200 ≤ length s → length x ≡ 96 → 200 ≤ length (spliced 104 96 s x)
    → users_in x n
    ≡ define_in (take 96 (drop 104 s)) (get_or s 20 0) code
    (get_or s 16 0 ∷ get_or s 17 0 ∷ get_or s 18 0 ∷ get_or s 19 0 ∷ []) last
    → condition_in (set (spliced 104 96 s x) 20 n) ≡ defined_in (condition_in s) code last
unfolding define_in
define-by s x n code last h hx hl e =
    let l : 6 ≤ length (take 96 (drop 104 s)) = omega (arith, part_length 104 96 s (omega arith)) in
    count-in (spliced 104 96 s x) n hl ∙ ap (λ (k : Condition). with_count k n) (users-in s x h hx)
    ∙ ap (with_users (condition_in s)) (e ∙ rw (le-ltb _ 6 l, users-at s, held-in s h))

-- bytes 3 to 20 at power-up for a font
abbrev fresh_head : ℕ → List ℕ
fresh_head f = 0 ∷ 1 ∷ 0 ∷ 0 ∷ f ∷ f ∷ 0 ∷ 3 ∷ 0x14 ∷ 0 ∷ 0 ∷ 0 ∷ 0 ∷ 0 ∷ 0 ∷ 0 ∷ 0 ∷ 0 ∷ []

pub reset-in : (s : List ℕ) (f : ℕ) → 200 ≤ length s → condition_in (spliced 3 18 s (fresh_head f)) ≡ reset_in (condition_in s) f
unfolding condition_in power_up
reset-in s f h = stored (λ (l : List ℕ). spliced 3 18 l (fresh_head f)) (λ (k : Condition). reset_in k f) (search) s h

-- the bytes held, all 0
pub release-by : (s x : List ℕ) → 200 ≤ length s → x ≡ replicate (length (take 4 (drop 16 s))) 0
    → condition_in (spliced 16 4 s x) ≡ released_in (condition_in s)
unfolding condition_in
release-by s x h e =
    rw (e, part_length 16 4 s (omega arith))
    (stored (λ (l : List ℕ). spliced 16 4 l (replicate 4 0)) (λ (k : Condition). released_in k) (search) s h)
