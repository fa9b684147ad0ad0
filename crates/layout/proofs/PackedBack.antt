-- A condition packed into bytes, and unpacked again.
use Prim.Native.Nat.{ℕ, ◌+◌, ◌≤◌, ◌<◌}
use mathlib.Core.Path.{◌≡◌, refl, ap, sym, ◌∙◌}
use mathlib.Core.Bool.{Bool, true, false}
use mir.Val.{bool_byte}
use Rattle.laws.specs.Flags.{flag}
use mathlib.Core.List.{List, [], ◌++◌, append_assoc, append-nil}
use native.Mathlib.Omega.{arith}
use lib.Dec.{eqb}
use lib.ListN.{length, get_or, take, drop, length-append}
use Rattle.std.proofs.lemmas.List.{get_or-take}
use borrow.Author.Tests.{ne_eqb, lt-ltb, le-ltb}
use Rattle.index.specs.Index.{index_of}
use Rattle.condition.specs.declared.Condition.{Condition}
use Rattle.condition.specs.declared.Pending.{Pending}
use Rattle.condition.specs.declared.Pending.TheVariants.{Nothing, Escape, Position, Luminance, Speed, UserCode, UserData}
use Rattle.condition.specs.Condition.{held_of, power_up}
use Rattle.condition.specs.Set.{reindexed}
use Rattle.layout.specs.Layout.{kind_of, code_of, head_of, packed_of, pending_of, condition_in, unpacked_of}
use Rattle.laws.proofs.Flags.{flag-back}
use Rattle.condition.proofs.Good.{Sized, Indexed, reindexed-same}
use Rattle.laws.proofs.Lists.{part_length, gets-all}
use Rattle.layout.proofs.Parts.{part-of-first, cut_parts, in-codes, in-fonts, in-users}

-- bytes that are too few
pub too_few : (s : List ℕ) → length s < 200 → unpacked_of s ≡ power_up 0
unfolding unpacked_of
too_few s h = rw (lt-ltb _ _ h)

pub length-packed : (c : Condition) → Sized c → length (packed_of c) ≡ 200
unfolding packed_of head_of
length-packed c z = simp (length-append, z.codes-40, z.fonts-40, z.users-96)

-- the rows that stand in 200 bytes have their lengths
pub sized-in : (s : List ℕ) → 200 ≤ length s → Sized (condition_in s)
unfolding condition_in
sized-in s h =
    record {
      codes-40 = part_length 24 40 s (omega arith);
      fonts-40 = part_length 64 40 s (omega arith);
      users-96 = part_length 104 96 s (omega arith);
      held-4 = part_length 16 4 s (omega arith);
    }

-- and the index is built from the list
pub indexed-in : (s : List ℕ) → Indexed (condition_in s)
unfolding condition_in
indexed-in s = refl

-- nothing behind the first 200 bytes is looked at
in-first : (s : List ℕ) → condition_in (take 200 s) ≡ condition_in s
unfolding condition_in
in-first s =
    let byte : (k : ℕ) → k < 200 → get_or (take 200 s) k 0 ≡ get_or s k 0 = λ k h. get_or-take 200 s k 0 h in
    let part : (at n : ℕ) → at + n ≤ 200 → take n (drop at (take 200 s)) ≡ take n (drop at s) = part-of-first 200 s in
    rw (byte 3 (omega arith), byte 4 (omega arith), byte 5 (omega arith), byte 6 (omega arith), byte 7 (omega arith))
    (rw (byte 8 (omega arith), byte 9 (omega arith), byte 10 (omega arith), byte 11 (omega arith), byte 12 (omega arith))
    (rw (byte 13 (omega arith), byte 14 (omega arith), byte 15 (omega arith), byte 20 (omega arith))
    (rw (part 24 40 (omega arith), part 64 40 (omega arith), part 104 96 (omega arith), part 16 4 (omega arith)))))

-- bytes that hold a condition; t is the first 200 of them
pub enough : (s : List ℕ) → 200 ≤ length s → unpacked_of s ≡ condition_in s
unfolding unpacked_of
enough s h = rw (le-ltb _ _ h)

pub first-enough : (s t : List ℕ) → 200 ≤ length s → t ≡ take 200 s → condition_in t ≡ unpacked_of s
first-enough s t h e = rw (enough s h, e) (in-first s)

-- a flag as the byte that a cast makes of it
pub cast-flag : (t : Bool) → bool_byte t ≡ flag t
cast-flag true = refl
cast-flag false = refl

-- a kind that is none of 0 to 5
pub kind-above-5 : (k a n : ℕ) → 5 < k → UserData a n ≡ pending_of k a n
kind-above-5 k a n h =
    let other : (i : ℕ) → i ≤ 5 → eqb k i ≡ false = λ i l. ne_eqb k i (λ e. omega arith) in
    rw (other 0 (omega arith), other 1 (omega arith), other 2 (omega arith), other 3 (omega arith))
    (rw (other 4 (omega arith), other 5 (omega arith)))

pending-back : (p : Pending) → pending_of (kind_of p) (code_of p) (held_of p) ≡ p
pending-back Nothing = refl
pending-back Escape = refl
pending-back Position = refl
pending-back Luminance = refl
pending-back Speed = refl
pending-back UserCode = refl
pending-back (UserData x n) = refl

-- whatever stands behind them, the packed bytes are read as the condition that they were packed from, but with the list's index
list_back : (c : Condition) (r : List ℕ) → Sized c → condition_in (packed_of c ++ r) ≡ reindexed c
unfolding condition_in packed_of head_of
list_back c r z =
    let u : List ℕ = c.users.bytes in
    let e : drop 24 (packed_of c ++ r) ≡ c.codes ++ (c.fonts ++ (u ++ r)) = simp append_assoc in
    let codes : take 40 (drop 24 (packed_of c ++ r)) ≡ c.codes =
    ap (take 40) e ∙ in-codes c.codes c.fonts u r z.codes-40 z.fonts-40 z.users-96 in
    let fonts : take 40 (drop 64 (packed_of c ++ r)) ≡ c.fonts =
    ap (λ (l : List ℕ). take 40 (drop 40 l)) e ∙ in-fonts c.codes c.fonts u r z.codes-40 z.fonts-40 z.users-96 in
    let users : take 96 (drop 104 (packed_of c ++ r)) ≡ u =
    ap (λ (l : List ℕ). take 96 (drop 80 l)) e ∙ in-users c.codes c.fonts u r z.codes-40 z.fonts-40 z.users-96 in
    λ i. record {
      codes = codes i;
      fonts = fonts i;
      cursor = c.cursor;
      mode = c.mode;
      scrolling = flag-back c.scrolling i;
      shown = flag-back c.shown i;
      font = c.font;
      link = c.link;
      euro = flag-back c.euro i;
      luminance = c.luminance;
      speed = c.speed;
      flickerless = flag-back c.flickerless i;
      users = record { bytes = users i; count = c.users.count };
      index = index_of 256 (users i) c.users.count;
      pending = pending-back c.pending i;
      held = gets-all 4 c.held z.held-4 i;
    }

-- which is its own where that is the list's
pub back-with : (c : Condition) (r : List ℕ) → Sized c → Indexed c → condition_in (packed_of c ++ r) ≡ c
back-with c r z x = list_back c r z ∙ reindexed-same c x

pub packed-back : (c : Condition) → Sized c → condition_in (packed_of c) ≡ reindexed c
packed-back c z = ap condition_in (sym (append-nil (packed_of c))) ∙ list_back c [] z

-- and the condition that stands in bytes, packed again, differs from them in its head alone
pub repacked : (s : List ℕ) → packed_of (condition_in s) ++ drop 200 s ≡ head_of (condition_in s) ++ drop 24 s
unfolding packed_of condition_in
repacked s =
    let flat : packed_of (condition_in s) ++ drop 200 s
    ≡ head_of (condition_in s) ++ (take 40 (drop 24 s) ++ (take 40 (drop 64 s) ++ (take 96 (drop 104 s) ++ drop 200 s))) =
    simp append_assoc in
    flat ∙ ap (λ (l : List ℕ). head_of (condition_in s) ++ l) (sym (cut_parts 24 s))
