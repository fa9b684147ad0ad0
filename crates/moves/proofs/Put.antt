-- The bytes of a way of each kind, put at the start of a buffer: the first of three.
use mathlib.Core.Path.{◌≡◌, sym, ap, subst⁻¹, ◌∙◌}
use mathlib.Core.Logic.{◌≢◌}
use mathlib.Core.List.{List, [], ◌∷◌, ◌++◌, append-nil}
use mathlib.Core.Bool.{false, cond}
use Prim.Native.Nat.{ℕ, zero, suc, ◌+◌, ◌≤◌, ◌<◌}
use native.Mathlib.Omega.{arith}
use lib.Dec.{eqb}
use lib.ListN.{length, set, take, replicate}
use lib.Seq.{sets, sets-eq, set-set, take_all, take-append_seam, take-append-add}
use borrow.Author.Tests.{eq-eqb, ne_eqb, lt-ltb}
use Rattle.laws.proofs.Tests.{by-test}
use Rattle.laws.proofs.Lists.{take-replicate}
use Rattle.moves.specs.Moves.{places, dist, fewest_of}
use Rattle.moves.specs.Ways.{path, way_of, Shortest, PutsWay}
use Rattle.moves.specs.Kinds.{line_of, column_of, apart, aside, onward, sideways, to_start, from_start}
use Rattle.moves.proofs.Moving.{length-path}
use Rattle.moves.proofs.Strings.{shortest}
use Rattle.moves.proofs.Four.{onward-length, sideways-within, sideways-across, start-sum}

-- The first n of three ------------------------------------------------------------------------------------------------------------

module _ (d : List ℕ) (n x y z : ℕ) where
  abbrev Three : List ℕ → Type 0
  Three o = o ≡ sets d 0 (take n (x ∷ y ∷ z ∷ []))

  pub put-none : n ≡ 0 → Three d
  put-none e = rw e

  pub put_one : (o : List ℕ) → o ≡ set d 0 x → n ≡ 1 → Three o
  put_one o h e = rw e h

  pub put_two : (o₁ o : List ℕ) → o₁ ≡ set d 0 x → o ≡ set o₁ 1 y → n ≡ 2 → Three o
  put_two o₁ o h₁ h e = rw (e, ← h₁) h

  pub put_all : (o₁ o₂ o : List ℕ) → o₁ ≡ set d 0 x → o₂ ≡ set o₁ 1 y → o ≡ set o₂ 2 z → 3 ≤ n → Three o
  put_all o₁ o₂ o h₁ h₂ h l = rw (take_all n (x ∷ y ∷ z ∷ []) l, ← h₁, ← h₂) h

-- what is put, in other words
pub put_as : (d o xs ys : List ℕ) → o ≡ sets d 0 xs → xs ≡ ys → o ≡ sets d 0 ys
put_as d o xs ys p e = p ∙ ap (sets d 0) e

-- Onward --------------------------------------------------------------------------------------------------------------------------

pub is-onward : (n a b : ℕ) → n ≡ length (onward a b) → n ≤ 3 → take n (0x09 ∷ 0x09 ∷ 0x09 ∷ []) ≡ onward a b
unfolding onward
is-onward n a b e h = take-replicate n 3 0x09 h ∙ ap (λ (m : ℕ). replicate m 0x09) (e ∙ onward-length a b)

-- Sideways ------------------------------------------------------------------------------------------------------------------------

-- on one line
pub is_within : (n m a b : ℕ) → m ≡ aside a b → n ≡ length (sideways a b) → n ≤ 3 → line_of a ≡ line_of b
    → take n (m ∷ m ∷ m ∷ []) ≡ sideways a b
unfolding sideways
is_within n m a b em e h el =
    let none : apart (line_of a) (line_of b) ≡ 0 = omega arith in
    take-replicate n 3 m h ∙ rw (e ∙ sideways-within a b el, em, none) (sym (append-nil _))

-- from one to the other the last of them is 0Ah
last-over : (d : List ℕ) (k m v : ℕ) → k ≤ 2
    → set (sets d 0 (take (k + 1) (m ∷ m ∷ m ∷ []))) k v ≡ sets d 0 (replicate k m ++ v ∷ [])
last-over d zero m v h = set-set d 0 m v
last-over d (suc zero) m v h = set-set (set d 0 m) 1 m v
last-over d (suc (suc zero)) m v h = set-set (set (set d 0 m) 1 m) 2 m v
last-over d (suc (suc (suc k))) m v h = absurd (omega arith)

pub put-across : (d : List ℕ) (n m a b i : ℕ) → m ≡ aside a b → n ≡ length (sideways a b) → n ≤ 3 → n ≡ i + 1 → a < 40 → b < 40
    → line_of a ≢ line_of b → set (sets d 0 (take n (m ∷ m ∷ m ∷ []))) i 0x0a ≡ sets d 0 (sideways a b)
unfolding sideways
put-across d n m a b i em e h ni ha hb el =
    let one : apart (line_of a) (line_of b) ≡ 1 = omega arith in
    let ik : i ≡ apart (column_of a) (column_of b) = omega (arith, ni, e, sideways-across a b ha hb el) in
    let same : replicate i m ++ 0x0a ∷ [] ≡ sideways a b = rw (ik, em, one) in
    rw ni (last-over d i m 0x0a (omega arith)) ∙ ap (sets d 0) same

-- From the start of the line ------------------------------------------------------------------------------------------------------

-- what leads there: to the top line, from the top line to the bottom one, and on the bottom one
pub to-top : (a b : ℕ) → b < 20 → to_start a b ≡ 0x0c ∷ []
to-top a b t = rw (eq-eqb (line_of b) 0 (omega arith))

below : (p : ℕ) → 20 ≤ p → eqb (line_of p) 0 ≡ false
below p h = ne_eqb (line_of p) 0 (λ z. omega arith)

pub to-bottom-down : (a b : ℕ) → a < 20 → 20 ≤ b → to_start a b ≡ 0x0a ∷ 0x0d ∷ []
to-bottom-down a b s t = rw (below b t, eq-eqb (line_of a) 0 (omega arith))

pub to-bottom : (a b : ℕ) → 20 ≤ a → 20 ≤ b → to_start a b ≡ 0x0d ∷ []
to-bottom a b s t = rw (below b t, below a s)

-- that, and 09h for each column: the first n of it and of j times 09h, three bytes together
pub is-start : (n a b j : ℕ) (xs : List ℕ) → to_start a b ≡ xs → n ≡ length (from_start a b) → n ≤ length xs + j
    → take n (xs ++ replicate j 0x09) ≡ from_start a b
unfolding from_start
is-start n a b j xs t e h =
    let k = column_of b in
    let nk : n ≡ length xs + k = e ∙ start-sum a b ∙ rw t in
    let run : List ℕ = replicate k 0x09 in
    let few : take k (replicate j 0x09) ≡ run = take-replicate k j 0x09 (omega (arith, nk)) in
    rw (nk, t, ← few) (take-append-add xs (replicate j 0x09) k)

-- The way -------------------------------------------------------------------------------------------------------------------------

way-length : (a b : ℕ) → length (way_of a b) ≡ fewest_of a b
unfolding way_of fewest_of
way-length a b =
    by-test (λ (bs : List ℕ). length bs ≡ cond (places a b) (dist a b) 0) (places a b) (λ e. rw e (length-path a b)) (λ e. rw e)

pub way-path : (a b : ℕ) → a < 40 → b < 40 → way_of a b ≡ path a b
unfolding way_of
way-path a b ha hb = rw (lt-ltb a 40 ha, lt-ltb b 40 hb)

-- what is put at the start of a buffer with room for it stands there
put-there : (d xs : List ℕ) → length xs ≤ length d → take (length xs) (sets d 0 xs) ≡ xs
put-there d xs h = rw (sets-eq xs d 0 (omega arith)) (take-append_seam xs _)

pub way-put : (a b r : ℕ) (d o : List ℕ) → r ≡ fewest_of a b → o ≡ sets d 0 (way_of a b) → PutsWay a b d o r
way-put a b r d o e p =
    record {
      answer = e ∙ sym (way-length a b);
      output = p;
      shortest = λ room ha hb.
          let w = way-path a b ha hb in
          let n : r ≡ length (path a b) = e ∙ sym (way-length a b) ∙ ap length w in
          let same : take r o ≡ path a b = rw (n, p, w) (put-there d (path a b) (rw n at room)) in
          subst⁻¹ (Shortest a b) same (shortest a b hb);
    }

pub no_way : (a b : ℕ) (d : List ℕ) → fewest_of a b ≡ 0 → PutsWay a b d d 0
no_way a b d z = way-put a b 0 d d (sym z) (ap (sets d 0) (take_all 0 (way_of a b) (omega (arith, way-length a b))))

-- two answers that the contract of `put_way` allows, and what they leave in the buffer, are the same
pub one_way : (a b r s : ℕ) (d o p : List ℕ) → PutsWay a b d o r → PutsWay a b d p s → (r ≡ s) × (o ≡ p)
one_way a b r s d o p f g = (f.answer ∙ sym g.answer, f.output ∙ sym g.output)
