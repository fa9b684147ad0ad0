-- Parts of lists, and stores one after the other.
use mathlib.Core.Path.{◌≡◌, refl, sym, ap, ◌∙◌}
use mathlib.Core.List.{List, [], ◌∷◌, ◌++◌, map, append-nil}
use Prim.Native.Nat.{ℕ, zero, suc, ◌+◌, ◌-◌, ◌≤◌, ◌<◌}
use native.Mathlib.Nat.{add-zero, zero-add}
use native.Mathlib.Numerals.{add-one}
use native.Mathlib.Omega.{arith}
use lib.ListN.{length, get_or, take, drop, set, replicate, length-drop, length-set, length-replicate, take-append-drop}
use lib.ListN.{get_or-append, replicate-append-replicate, drop_of_length-le}
use lib.Seq.{sets, take_all, take_at, drop_at, drop-drop, drop-cons, length-take-le, get_or-set_same, get_or-set_other}
use lib.Seq.{get_or-append-add}

-- the part of a list from a place on
pub tail-part : (s : List ℕ) (at : ℕ) → take (length s - at) (drop at s) ≡ drop at s
tail-part s at = take_all (length s - at) (drop at s) (simp length-drop (omega arith))

-- a part has its length
pub part_length : (at n : ℕ) (s : List ℕ) → at + n ≤ length s → length (take n (drop at s)) ≡ n
part_length at n s h = length-take-le n (drop at s) (simp length-drop (omega arith))

-- a part, and what stands behind it
pub cut : (at n : ℕ) (s : List ℕ) → drop at s ≡ take n (drop at s) ++ drop (at + n) s
cut at n s = rw (← drop-drop n at s) (sym (take-append-drop n (drop at s)))

-- the first m of a value that stands n times, and what is left
pub take-replicate : (m n v : ℕ) → m ≤ n → take m (replicate n v) ≡ replicate m v
take-replicate m n v h =
    let s : n ≡ m + (n - m) = omega arith in
    ap (λ (k : ℕ). take m (replicate k v)) s
    ∙ rw (← replicate-append-replicate m (n - m) v) (take_at (replicate m v) (replicate (n - m) v) m (length-replicate m v))

pub drop-replicate : (m n v : ℕ) → m ≤ n → drop m (replicate n v) ≡ replicate (n - m) v
drop-replicate m n v h =
    let s : n ≡ m + (n - m) = omega arith in
    ap (λ (k : ℕ). drop m (replicate k v)) s
    ∙ rw (← replicate-append-replicate m (n - m) v) (drop_at (replicate m v) (replicate (n - m) v) m (length-replicate m v))

-- what stands in the first of two lists, and in the second
pub in-front : (xs ys : List ℕ) {n : ℕ} (i : ℕ) → length xs ≡ n → i < n → get_or (xs ++ ys) i 0 ≡ get_or xs i 0
in-front xs ys i e h = get_or-append xs ys 0 i (omega arith)

pub behind : (xs ys : List ℕ) {n : ℕ} (i : ℕ) → length xs ≡ n → n ≤ i → get_or (xs ++ ys) i 0 ≡ get_or ys (i - n) 0
behind xs ys {n} i e h =
    let f : i ≡ length xs + (i - n) = omega arith in
    ap (λ (x : ℕ). get_or (xs ++ ys) x 0) f ∙ get_or-append-add xs ys (i - n) 0

-- n bytes from `at` on, one by one
abbrev pub gets : ℕ → ℕ → List ℕ → List ℕ
gets zero at l = []
gets (suc n) at l = get_or l at 0 ∷ gets n (suc at) l

pub bytewise : (n at : ℕ) (l : List ℕ) → at + n ≤ length l → drop at l ≡ gets n at l ++ drop (at + n) l
bytewise zero at l h = rw add-zero
bytewise (suc n) at l h =
    let lt : at < length l = omega arith in
    let e : suc at + n ≡ at + suc n = omega arith in
    drop-cons l at 0 lt ∙ ap (λ (r : List ℕ). get_or l at 0 ∷ r) (bytewise n (suc at) l (omega arith) ∙ rw e)

-- all of them
pub gets-all : (n : ℕ) (l : List ℕ) → length l ≡ n → gets n 0 l ≡ l
gets-all n l e =
    let all : length l ≤ n = omega arith in
    sym (bytewise n 0 l (omega arith) ∙ rw (zero-add n, drop_of_length-le l all) (append-nil (gets n 0 l)))

-- the stores of a list and those of another behind it
pub sets-append : (l : List ℕ) (i : ℕ) (xs ys : List ℕ) → sets l i (xs ++ ys) ≡ sets (sets l i xs) (i + length xs) ys
sets-append l i [] ys = ap (λ (k : ℕ). sets l k ys) (sym (add-zero i))
sets-append l i (x ∷ xs) ys =
    sets-append (set l i x) (suc i) xs ys ∙ ap (λ (k : ℕ). sets (sets (set l i x) (suc i) xs) k ys) (omega arith)

-- the stores of a list leave every other place as it is, and put the list there
pub sets-else : (l : List ℕ) (at : ℕ) (xs : List ℕ) (i : ℕ) → ((j : ℕ) → j < length xs → i ≡ at + j → ⊥)
    → get_or (sets l at xs) i 0 ≡ get_or l i 0
sets-else l at [] i h = refl
sets-else l at (x ∷ xs) i h =
    let first : i ≡ at → ⊥ = λ e. h 0 (omega arith) (omega arith) in
    sets-else (set l at x) (suc at) xs i (λ j m e. h (suc j) (omega arith) (omega arith)) ∙ get_or-set_other l at i x 0 first

pub sets-there : (l : List ℕ) (at : ℕ) (xs : List ℕ) (j : ℕ) → at + length xs ≤ length l → j < length xs
    → get_or (sets l at xs) (at + j) 0 ≡ get_or xs j 0
sets-there l at [] j h m = absurd (omega arith)
sets-there l at (x ∷ xs) zero h m =
    rw (add-zero at) (sets-else (set l at x) (suc at) xs at (λ j _ e. omega arith) ∙ get_or-set_same l at x 0 (omega arith))
sets-there l at (x ∷ xs) (suc j) h m =
    let e : at + suc j ≡ suc at + j = omega arith in
    rw e (sets-there (set l at x) (suc at) xs j (rw (length-set l at x) (omega arith)) (omega arith))

-- a property of every list of n elements or more, by its first n elements
abbrev pub Each : ℕ → (List ℕ → Type 0) → Type 0
Each zero P = (r : List ℕ) → P r
Each (suc n) P = (a : ℕ) → Each n (λ (l : List ℕ). P (a ∷ l))

pub each : (n : ℕ) (P : List ℕ → Type 0) → Each n P → (s : List ℕ) → n ≤ length s → P s
each zero P f s h = f s
each (suc n) P f [] h = absurd (omega arith)
each (suc n) P f (a ∷ s) h = each n (λ (l : List ℕ). P (a ∷ l)) (f a) s (omega arith)

-- the next two of what is left
pub next-two : (s : List ℕ) (i : ℕ) → i + 2 ≤ length s → drop i s ≡ get_or s i 0 ∷ get_or s (i + 1) 0 ∷ drop (i + 2) s
next-two s i h =
    let one : suc i ≡ i + 1 = omega arith in
    let two : suc (i + 1) ≡ i + 2 = omega arith in
    let rest : drop (i + 1) s ≡ get_or s (i + 1) 0 ∷ drop (i + 2) s = drop-cons s (i + 1) 0 (omega arith) ∙ rw two in
    drop-cons s i 0 (omega arith) ∙ rw (one, rest)

-- Each element changed where it stands ------------------------------------------------------------------------------------------

-- a turn of a loop that changes each element by f, where it stands
pub map-turn : (f : ℕ → ℕ) (d out : List ℕ) (i : ℕ) → out ≡ map f (take i d) ++ drop i d → i < length d
    → set out i (f (get_or out i 0)) ≡ map f (take (i + 1) d) ++ drop (i + 1) d
map-turn f d out i e h = rw (e, add-one i) (go d i h)
  where
    go : (d : List ℕ) (i : ℕ) → i < length d
        → set (map f (take i d) ++ drop i d) i (f (get_or (map f (take i d) ++ drop i d) i 0)) ≡ map f (take (suc i) d) ++ drop
        (suc i) d
    go [] i h = absurd (omega arith)
    go (x ∷ d) zero h = refl
    go (x ∷ d) (suc i) h = ap (λ (l : List ℕ). f x ∷ l) (go d i (omega arith))

pub map-done : (f : ℕ → ℕ) (d out : List ℕ) (i : ℕ) → out ≡ map f (take i d) ++ drop i d → length d ≤ i → out ≡ map f d
map-done f d out i e h = e ∙ rw (take_all i d h, drop_of_length-le d h) (append-nil (map f d))
