-- Parts of a row of bytes: laid one after the other, copied out again, and where the first 200 bytes are cut.
use Prim.Native.Nat.{ℕ, suc, ◌+◌, ◌-◌, ◌≤◌, ◌<◌}
use mathlib.Core.Path.{◌≡◌, refl, ap, sym, ◌∙◌}
use mathlib.Core.List.{List, ◌++◌, append_assoc, append-nil}
use native.Mathlib.Omega.{arith}
use native.Mathlib.Numerals.{add-one}
use lib.ListN.{length, get_or, take, drop, set, length-append, length-drop, drop_of_length-le}
use lib.Seq.{take_at, drop_at, drop-drop, drop-cons, take-add, take_all, take-suc, set_at, append_snoc, length-take-le}
use Rattle.laws.proofs.Lists.{cut}
use Rattle.std.proofs.lemmas.List.{drop-take, take-take}
use borrow.Rule.Slice.PartMut.{put_mid}

-- One byte after the other ----------------------------------------------------------------------------------------------------

pub copy-turn : (d s out : List ℕ) (i : ℕ) → out ≡ take i s ++ drop i d → i < length d → i < length s
    → set out i (get_or s i 0) ≡ take (i + 1) s ++ drop (i + 1) d
copy-turn d s out i e h k =
    let l : length (take i s) ≡ i = length-take-le i s (omega arith) in
    rw (e, drop-cons d i 0 h, set_at (take i s) (get_or d i 0) (drop (suc i) d) (get_or s i 0) i l, add-one, take-suc s i 0 k)
    (sym (append_snoc (take i s) (get_or s i 0) (drop (suc i) d)))

pub copied : (d s : List ℕ) (i : ℕ) → length s ≤ i → length d ≤ i → take i s ++ drop i d ≡ s
copied d s i hs hd = rw (take_all i s hs, drop_of_length-le d hd) (append-nil s)

-- a part of the first m bytes
pub part-of-first : (m : ℕ) (s : List ℕ) (at n : ℕ) → at + n ≤ m → take n (drop at (take m s)) ≡ take n (drop at s)
part-of-first m s at n h =
    let e : m ≡ at + (m - at) = omega arith in
    rw (e, drop-take at (m - at) s) (take-take n (m - at) (drop at s) (omega arith))

-- Cut into parts -------------------------------------------------------------------------------------------------------------

-- from `at` on: codes, fonts, user characters, and what stands behind them
pub cut_parts : (at : ℕ) (s : List ℕ) → drop at s
    ≡ take 40 (drop at s) ++ (take 40 (drop (at + 40) s) ++ (take 96 (drop (at + 40 + 40) s) ++ drop (at + 40 + 40 + 96) s))
cut_parts at s =
    cut at 40 s ∙ ap (λ (l : List ℕ). take 40 (drop at s) ++ l)
    (cut (at + 40) 40 s ∙ ap (λ (l : List ℕ). take 40 (drop (at + 40) s) ++ l) (cut (at + 40 + 40) 96 s))

-- codes p, fonts q and user characters w, and z behind them
module _ (p q w z : List ℕ) (hp : length p ≡ 40) (hq : length q ≡ 40) (hw : length w ≡ 96) where
  pub in-codes : take 40 (p ++ (q ++ (w ++ z))) ≡ p
  in-codes = take_at p (q ++ (w ++ z)) 40 hp

  pub past-codes : drop 40 (p ++ (q ++ (w ++ z))) ≡ q ++ (w ++ z)
  past-codes = drop_at p (q ++ (w ++ z)) 40 hp

  pub past-fonts : drop 80 (p ++ (q ++ (w ++ z))) ≡ w ++ z
  past-fonts = sym (drop-drop 40 40 (p ++ (q ++ (w ++ z)))) ∙ ap (drop 40) past-codes ∙ drop_at q (w ++ z) 40 hq

  pub up-to-fonts : take 80 (p ++ (q ++ (w ++ z))) ≡ p ++ q
  up-to-fonts =
      take-add 40 40 (p ++ (q ++ (w ++ z)))
      ∙ rw (in-codes, past-codes) (ap (λ (l : List ℕ). p ++ l) (take_at q (w ++ z) 40 hq))

  pub in-fonts : take 40 (drop 40 (p ++ (q ++ (w ++ z)))) ≡ q
  in-fonts = rw past-codes (take_at q (w ++ z) 40 hq)

  pub in-users : take 96 (drop 80 (p ++ (q ++ (w ++ z)))) ≡ w
  in-users = rw past-fonts (take_at w z 96 hw)

-- Laid one after the other -----------------------------------------------------------------------------------------------------

-- the next part q, laid behind p
pub behind : (l p t q : List ℕ) (a n : ℕ) → l ≡ p ++ t → length p ≡ a → put_mid a n l q ≡ (p ++ q) ++ drop n t
behind l p t q a n e hp = rw (e, take_at p t a hp, drop_at p t a hp) (sym (append_assoc p q (drop n t)))

-- four parts that fill 200 bytes
pub four-parts : (s p q u w : List ℕ) → length s ≡ 200 → length p ≡ 24 → length q ≡ 40 → length u ≡ 40
    → put_mid 104 96 (put_mid 64 40 (put_mid 24 40 (p ++ drop 24 s) q) u) w ≡ p ++ (q ++ (u ++ w))
four-parts s p q u w hs hp hq hu =
    let t₁ : List ℕ = drop 24 s in
    let t₂ : List ℕ = drop 40 t₁ in
    let t₃ : List ℕ = drop 40 t₂ in
    let s₁ : List ℕ = p ++ t₁ in
    let s₂ : List ℕ = put_mid 24 40 s₁ q in
    let s₃ : List ℕ = put_mid 64 40 s₂ u in
    let l₃ : length t₃ ≤ 96 = simp length-drop (omega arith) in
    let lq : length (p ++ q) ≡ 64 = length-append p q ∙ (omega arith) in
    let lu : length ((p ++ q) ++ u) ≡ 104 = length-append (p ++ q) u ∙ (omega arith) in
    let f₂ : s₂ ≡ (p ++ q) ++ t₂ = behind s₁ p t₁ q 24 40 refl hp in
    let f₃ : s₃ ≡ ((p ++ q) ++ u) ++ t₃ = behind s₂ (p ++ q) t₂ u 64 40 f₂ lq in
    behind s₃ ((p ++ q) ++ u) t₃ w 104 96 f₃ lu
    ∙ rw (drop_of_length-le t₃ l₃) (append-nil (((p ++ q) ++ u) ++ w) ∙ simp append_assoc)
