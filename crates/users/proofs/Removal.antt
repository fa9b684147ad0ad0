-- A place taken out: what the loop has done after each turn and in the end, and what then stands where.
use Prim.Native.Nat.{ℕ, ◌+◌, ◌-◌, ◌*◌, ◌<◌, ◌≤◌}
use mathlib.Core.Path.{◌≡◌, sym, ap, ◌∙◌}
use mathlib.Core.List.{List, ◌++◌, append_assoc}
use native.Mathlib.Omega.{arith}
use lib.ListN.{length, get_or, take, drop, replicate, length-append, length-drop, take-append-drop, get_or-replicate}
use lib.Seq.{take-add, drop-drop, get_or-take, get_or-drop, drop_at, take_at, length-take-le, take-append-add, drop-append-add}
use lib.Dec.{leb, ltb}
use borrow.Author.Tests.{leb-true, leb-false, ltb-true, ltb-false}
use Rattle.laws.proofs.Tests.{by_cases}
use Rattle.laws.proofs.Lists.{part_length, cut, in-front, behind}
use Rattle.row.specs.Row.{advanced}
use Rattle.users.specs.Users.{removed}

-- a place, between what stands before it and after it, taken out
between : (a x r : List ℕ) (k youngest : ℕ) → length a ≡ k * 6 → length x ≡ 6 → k ≤ youngest
    → removed k youngest (a ++ (x ++ r)) ≡ a ++ (take ((youngest - k) * 6) r ++ (replicate 6 0 ++ drop ((youngest - k) * 6) r))
unfolding removed
between a x r k youngest h l m =
    let p : k * 6 + 6 + (youngest - k) * 6 ≡ youngest * 6 + 6 = omega arith in
    let rest : drop (k * 6 + 6) (a ++ (x ++ r)) ≡ r =
    rw (← drop-drop 6 (k * 6) (a ++ (x ++ r)), drop_at a (x ++ r) (k * 6) h) (drop_at x r 6 l) in
    rw (← p, ← drop-drop ((youngest - k) * 6) (k * 6 + 6) (a ++ (x ++ r)), rest, take_at a (x ++ r) (k * 6) h) (simp append_assoc)

-- The loop of `remove`: the place i takes what stands in the next one, which is then the one to be taken out; in the end the
-- youngest place is 0
turned : (a x y r : List ℕ) (i youngest : ℕ) → length a ≡ i * 6 → length x ≡ 6 → length y ≡ 6 → i < youngest
    → removed (i + 1) youngest (a ++ (y ++ (y ++ r))) ≡ removed i youngest (a ++ (x ++ (y ++ r)))
turned a x y r i youngest h l m o =
    let q : (youngest - i) * 6 ≡ length y + (youngest - (i + 1)) * 6 = omega arith in
    rw (
      ← append_assoc a y (y ++ r),
      between (a ++ y) y r (i + 1) youngest (length-append a y ∙ omega arith) m (omega arith),
      between a x (y ++ r) i youngest h l (omega arith),
      q,
      take-append-add y r ((youngest - (i + 1)) * 6),
      drop-append-add y r ((youngest - (i + 1)) * 6),
    )
    (simp append_assoc)

module _ (b : List ℕ) (i youngest : ℕ) (l : youngest * 6 + 6 ≤ length b) where
  pub remove-turn : (x : List ℕ) (n : ℕ) → n ≡ 12 → i < youngest → x ≡ advanced 6 (take n (drop (i * 6) b))
      → removed (i + 1) youngest (take (i * 6) b ++ (x ++ drop n (drop (i * 6) b))) ≡ removed i youngest b
  unfolding advanced
  remove-turn x n t m f =
      let a = take (i * 6) b in
      let p = take 6 (drop (i * 6) b) in
      let y = take 6 (drop (i * 6 + 6) b) in
      let r = drop (i * 6 + 12) b in
      let o : i * 6 + 6 + 6 ≡ i * 6 + 12 = omega arith in
      let six = part_length (i * 6) 6 b (omega arith) in
      let next : drop 6 (take 12 (drop (i * 6) b)) ≡ y =
      rw (take-add 6 6 (drop (i * 6) b), drop_at p (take 6 (drop 6 (drop (i * 6) b))) 6 six, drop-drop 6 (i * 6) b) in
      let whole : a ++ (p ++ (y ++ r)) ≡ b =
      rw (← o, ← cut (i * 6 + 6) 6 b, ← cut (i * 6) 6 b) (take-append-drop (i * 6) b) in
      rw (f, t, part_length (i * 6) 12 b (omega arith), next, drop-drop 12 (i * 6) b, append_assoc y y r)
      (turned a p y r i youngest (length-take-le (i * 6) b (omega arith)) six (part_length (i * 6 + 6) 6 b (omega arith)) m
      ∙ ap (removed i youngest) whole)

  pub remove-law : (x : List ℕ) (n : ℕ) → n ≡ 6 → i ≡ youngest → x ≡ replicate (length (take n (drop (i * 6) b))) 0
      → take (i * 6) b ++ (x ++ drop n (drop (i * 6) b)) ≡ removed i youngest b
  remove-law x n t m f =
      let a = take (i * 6) b in
      let p = take 6 (drop (i * 6) b) in
      let six = part_length (i * 6) 6 b (omega arith) in
      let z : (youngest - i) * 6 ≡ 0 = omega arith in
      let whole : a ++ (p ++ drop (i * 6 + 6) b) ≡ b = rw (← cut (i * 6) 6 b) (take-append-drop (i * 6) b) in
      rw (f, t, six, drop-drop 6 (i * 6) b)
      (sym (rw z at (between a p (drop (i * 6 + 6) b) i youngest (length-take-le (i * 6) b (omega arith)) six (omega arith)))
      ∙ ap (removed i youngest) whole)

-- What then stands where ------------------------------------------------------------------------------------------------------

-- the place that comes to the place i: itself before k, from there on the next one
abbrev pub came : ℕ → ℕ → ℕ
came k i = i + (1 - (k - i))

module _ (us : List ℕ) (k youngest : ℕ) (h : k ≤ youngest) (l : youngest * 6 + 6 ≤ length us) where
  abbrev older : List ℕ
  older = take (k * 6) us

  abbrev younger : List ℕ
  younger = take ((youngest - k) * 6) (drop (k * 6 + 6) us)

  older-length : length older ≡ k * 6
  older-length = length-take-le (k * 6) us (omega arith)

  both-length : length (older ++ younger) ≡ youngest * 6
  both-length =
      let m = part_length (k * 6 + 6) ((youngest - k) * 6) us (omega arith) in
      simp length-append (omega (arith, older-length, m))

  kept-length : length (older ++ younger ++ replicate 6 0) ≡ youngest * 6 + 6
  kept-length = length-append (older ++ younger) (replicate 6 0) ∙ ap (λ (n : ℕ). n + 6) both-length

  pub removed-length : length (removed k youngest us) ≡ length us
  unfolding removed
  removed-length =
      length-append (older ++ younger ++ replicate 6 0) (drop (youngest * 6 + 6) us)
      ∙ rw (kept-length, length-drop (youngest * 6 + 6) us) (omega arith)

  -- before the youngest place, what stood in the place itself or in the next one
  pub left_at : (i j : ℕ) → i < youngest → j < 6 → get_or (removed k youngest us) (i * 6 + j) 0 ≡ get_or us (came k i * 6 + j) 0
  unfolding removed
  left_at i j m n =
      in-front (older ++ younger ++ replicate 6 0) (drop (youngest * 6 + 6) us) (i * 6 + j) kept-length (omega arith)
      ∙ in-front (older ++ younger) (replicate 6 0) (i * 6 + j) both-length (omega arith)
      ∙ by_cases (leb k i)
      (λ t. let g = leb-true k i t in
      let f : k * 6 + 6 + (i * 6 + j - k * 6) ≡ came k i * 6 + j = omega arith in
      behind older younger (i * 6 + j) older-length (omega arith)
      ∙ get_or-take ((youngest - k) * 6) (drop (k * 6 + 6) us) (i * 6 + j - k * 6) 0 (omega arith)
      ∙ get_or-drop (k * 6 + 6) us (i * 6 + j - k * 6) 0 ∙ ap (λ (x : ℕ). get_or us x 0) f)
      (λ t. let g = leb-false k i t in
      let f : i * 6 + j ≡ came k i * 6 + j = omega arith in
      in-front older younger (i * 6 + j) older-length (omega arith) ∙ get_or-take (k * 6) us (i * 6 + j) 0 (omega arith)
      ∙ ap (λ (x : ℕ). get_or us x 0) f)

  -- from the youngest place on 0, where it was so after it
  pub rest_at : ((i : ℕ) → youngest * 6 + 6 ≤ i → get_or us i 0 ≡ 0) → (i : ℕ) → youngest * 6 ≤ i
      → get_or (removed k youngest us) i 0 ≡ 0
  unfolding removed
  rest_at r i m =
      by_cases (ltb i (youngest * 6 + 6))
      (λ t. let g = ltb-true i (youngest * 6 + 6) t in
      in-front (older ++ younger ++ replicate 6 0) (drop (youngest * 6 + 6) us) i kept-length g
      ∙ behind (older ++ younger) (replicate 6 0) i both-length m ∙ get_or-replicate 6 (i - youngest * 6) 0 0 (omega arith))
      (λ t. let g = ltb-false i (youngest * 6 + 6) t in
      behind (older ++ younger ++ replicate 6 0) (drop (youngest * 6 + 6) us) i kept-length (omega arith)
      ∙ get_or-drop (youngest * 6 + 6) us (i - (youngest * 6 + 6)) 0
      ∙ r (youngest * 6 + 6 + (i - (youngest * 6 + 6))) (omega arith))
