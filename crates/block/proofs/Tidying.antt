-- An intact block is tidy exactly when it is the block of the condition that stands in it.
use Prim.Native.Nat.{ℕ, zero, suc, ◌+◌, ◌/◌, ◌%◌, ◌≤◌, ◌<◌}
use mathlib.Core.Path.{◌≡◌, refl, ap, sym, ◌∙◌}
use mathlib.Core.Bool.{Bool, true, false, cond, ◌&&◌}
use mathlib.Core.List.{List, [], ◌∷◌, ◌++◌, append_assoc}
use native.Mathlib.Omega.{arith}
use lib.Dec.{eqb, ltb, leb}
use lib.ListN.{length, get_or, take, drop, replicate, drop_of_length-le}
use lib.Seq.{take_at, drop_at, get_or-take, get_or-drop}
use borrow.Author.Tests.{eqb-true, ltb-true, le-leb}
use Rattle.laws.proofs.Tests.{both}
use Rattle.condition.specs.declared.Condition.{Condition}
use Rattle.condition.specs.declared.Pending.{Pending}
use Rattle.condition.specs.declared.Pending.TheVariants.{Nothing, Escape, Position, Luminance, Speed, UserCode, UserData}
use Rattle.row.specs.Row.{all_up_to, same_bytes}
use Rattle.laws.specs.Flags.{flag}
use Rattle.condition.specs.Condition.{held_of}
use Rattle.layout.specs.Layout.{kind_of, code_of, head_of, packed_of, pending_of, condition_in}
use Rattle.block.specs.Block.{check_of, body_of, seal_of, block_of}
use Rattle.block.specs.Reading.{intact}
use Rattle.block.specs.Tidy.{kind_good, rest_zero, tidy}
use Rattle.row.proofs.Alike.{same-eq, same_refl}
use Rattle.laws.proofs.Flags.{flag-most, flag-fits}
use Rattle.condition.proofs.Good.{Sized}
use Rattle.laws.proofs.Lists.{cut, gets, bytewise}
use Rattle.layout.proofs.PackedBack.{length-packed, sized-in, repacked}
use Rattle.block.proofs.Sealing.{unused, length-body, check-body}

-- A block is tidy ----------------------------------------------------------------------------------------------------------

kind-low : (p : Pending) → kind_good (kind_of p) (code_of p) (held_of p) ≡ true
unfolding kind_good
kind-low Nothing = refl
kind-low Escape = refl
kind-low Position = refl
kind-low Luminance = refl
kind-low Speed = refl
kind-low UserCode = refl
kind-low (UserData x n) = refl

module _ (c : Condition) (w : List ℕ) where
  heads : (leb (get_or (packed_of c ++ w) 5 0) 1 && leb (get_or (packed_of c ++ w) 6 0) 1 && leb (get_or (packed_of c ++ w) 9 0) 1
      && leb (get_or (packed_of c ++ w) 12 0) 1
      && kind_good (get_or (packed_of c ++ w) 13 0) (get_or (packed_of c ++ w) 14 0) (get_or (packed_of c ++ w) 15 0)
      && all_up_to 0 (take 3 (drop 21 (packed_of c ++ w))) && true) ≡ true
  unfolding packed_of head_of all_up_to
  heads = rw (flag-low c.scrolling, flag-low c.shown, flag-low c.euro, flag-low c.flickerless, kind-low c.pending)
    where
      flag-low : (t : Bool) → leb (flag t) 1 ≡ true
      flag-low t = le-leb (flag t) 1 (flag-most t)

ended-tidy : (c : Condition) (e : List ℕ) → Sized c → tidy (packed_of c ++ (replicate 310 0 ++ e)) ≡ true
unfolding tidy all_up_to
ended-tidy c e z = rw (drop_at (packed_of c) (replicate 310 0 ++ e) 200 (length-packed c z)) (heads c (replicate 310 0 ++ e))

-- a block is its packed condition, zeros, and the check
pub block-parts : (c : Condition) → block_of c
    ≡ packed_of c ++ (replicate 310 0 ++ (check_of (body_of c) % 256 ∷ check_of (body_of c) / 256 ∷ []))
unfolding block_of seal_of body_of
block-parts c = append_assoc (packed_of c) (replicate 310 0) _

block-tidy : (c : Condition) → Sized c → tidy (block_of c) ≡ true
block-tidy c z = rw (block-parts c) (ended-tidy c _ z)

-- A tidy block is the block of what stands in it ---------------------------------------------------------------------------

-- what is half received, back from its three bytes
record Back (k x n : ℕ) : Type 0 where
  pub kind : kind_of (pending_of k x n) ≡ k
  pub code : code_of (pending_of k x n) ≡ x
  pub held : held_of (pending_of k x n) ≡ n

low : (k x n : ℕ) → k < 6 → x ≡ 0 → n ≡ 0 → Back k x n
low zero x n h ex en = record { kind = refl; code = sym ex; held = sym en }
low (suc zero) x n h ex en = record { kind = refl; code = sym ex; held = sym en }
low (suc (suc zero)) x n h ex en = record { kind = refl; code = sym ex; held = sym en }
low (suc (suc (suc zero))) x n h ex en = record { kind = refl; code = sym ex; held = sym en }
low (suc (suc (suc (suc zero)))) x n h ex en = record { kind = refl; code = sym ex; held = sym en }
low (suc (suc (suc (suc (suc zero))))) x n h ex en = record { kind = refl; code = sym ex; held = sym en }
low (suc (suc (suc (suc (suc (suc k)))))) x n h ex en = absurd (omega arith)

six : (x n : ℕ) → Back 6 x n
six x n = record { kind = refl; code = refl; held = refl }

back : (k x n : ℕ) → kind_good k x n ≡ true → Back k x n
unfolding kind_good
back k x n e = go (eqb k 6) refl e
  where
    go : (t : Bool) → eqb k 6 ≡ t → cond t true (ltb k 6 && eqb x 0 && eqb n 0) ≡ true → Back k x n
    go true h e = rw (eqb-true k 6 h) (six x n)
    go false h e =
        let p = both (ltb k 6 && eqb x 0) (eqb n 0) e in
        let q = both (ltb k 6) (eqb x 0) p.0 in
        low k x n (ltb-true k 6 q.0) (eqb-true x 0 q.1) (eqb-true n 0 p.1)

-- the parts of tidy and of intact
record Tidy (b : List ℕ) : Type 0 where
  pub scrolling : leb (get_or b 5 0) 1 ≡ true
  pub shown : leb (get_or b 6 0) 1 ≡ true
  pub euro : leb (get_or b 9 0) 1 ≡ true
  pub flickerless : leb (get_or b 12 0) 1 ≡ true
  pub kind : kind_good (get_or b 13 0) (get_or b 14 0) (get_or b 15 0) ≡ true
  pub three : all_up_to 0 (take 3 (drop 21 b)) ≡ true
  pub rest : rest_zero b ≡ true

tidy-parts : (b : List ℕ) → tidy b ≡ true → Tidy b
unfolding tidy
tidy-parts b e =
    let f₅ = leb (get_or b 5 0) 1 in
    let f₆ = leb (get_or b 6 0) 1 in
    let f₉ = leb (get_or b 9 0) 1 in
    let f₁₂ = leb (get_or b 12 0) 1 in
    let k = kind_good (get_or b 13 0) (get_or b 14 0) (get_or b 15 0) in
    let z = all_up_to 0 (take 3 (drop 21 b)) in
    let p₆ = both (f₅ && f₆ && f₉ && f₁₂ && k && z) (rest_zero b) e in
    let p₅ = both (f₅ && f₆ && f₉ && f₁₂ && k) z p₆.0 in
    let p₄ = both (f₅ && f₆ && f₉ && f₁₂) k p₅.0 in
    let p₃ = both (f₅ && f₆ && f₉) f₁₂ p₄.0 in
    let p₂ = both (f₅ && f₆) f₉ p₃.0 in
    let p₁ = both f₅ f₆ p₂.0 in
    record { scrolling = p₁.0; shown = p₁.1; euro = p₂.1; flickerless = p₃.1; kind = p₄.1; three = p₅.1; rest = p₆.1 }

record Intact (b : List ℕ) : Type 0 where
  pub first : get_or b 0 0 ≡ 0x56
  pub second : get_or b 1 0 ≡ 0x4b
  pub third : get_or b 2 0 ≡ 0x01
  pub low : get_or b 510 0 ≡ check_of b % 256
  pub high : get_or b 511 0 ≡ check_of b / 256

intact-parts : (b : List ℕ) → intact b ≡ true → Intact b
unfolding intact
intact-parts b e =
    let f₀ = eqb (get_or b 0 0) 0x56 in
    let f₁ = eqb (get_or b 1 0) 0x4b in
    let f₂ = eqb (get_or b 2 0) 0x01 in
    let f₃ = eqb (get_or b 510 0) (check_of b % 256) in
    let f₄ = eqb (get_or b 511 0) (check_of b / 256) in
    let p₄ = both (f₀ && f₁ && f₂ && f₃) f₄ e in
    let p₃ = both (f₀ && f₁ && f₂) f₃ p₄.0 in
    let p₂ = both (f₀ && f₁) f₂ p₃.0 in
    let p₁ = both f₀ f₁ p₂.0 in
    record {
      first = eqb-true _ _ p₁.0;
      second = eqb-true _ _ p₁.1;
      third = eqb-true _ _ p₂.1;
      low = eqb-true _ _ p₃.1;
      high = eqb-true _ _ p₄.1;
    }

three-zeros : (b : List ℕ) → length b ≡ 512 → all_up_to 0 (take 3 (drop 21 b)) ≡ true → gets 3 21 b ≡ 0 ∷ 0 ∷ 0 ∷ []
three-zeros b h e =
    let t : take 3 (drop 21 b) ≡ gets 3 21 b =
    ap (take 3) (bytewise 3 21 b (omega arith)) ∙ take_at (gets 3 21 b) (drop 24 b) 3 refl in
    sym t ∙ unused 3 21 b (omega arith) e

held_at : (b : List ℕ) (i : ℕ) → i < 4 → get_or (take 4 (drop 16 b)) i 0 ≡ get_or b (16 + i) 0
held_at b i h = get_or-take 4 (drop 16 b) i 0 h ∙ get_or-drop 16 b i 0

head-back : (b : List ℕ) → length b ≡ 512 → Intact b → Tidy b → head_of (condition_in b) ≡ gets 24 0 b
unfolding head_of condition_in
head-back b h m t =
    let k = back (get_or b 13 0) (get_or b 14 0) (get_or b 15 0) t.kind in
    let z = three-zeros b h t.three in
    let z₀ : get_or b 21 0 ≡ 0 = ap (λ (l : List ℕ). get_or l 0 0) z in
    let z₁ : get_or b 22 0 ≡ 0 = ap (λ (l : List ℕ). get_or l 1 0) z in
    let z₂ : get_or b 23 0 ≡ 0 = ap (λ (l : List ℕ). get_or l 2 0) z in
    let h₀ : get_or (take 4 (drop 16 b)) 0 0 ≡ get_or b 16 0 = held_at b 0 (omega arith) in
    let h₁ : get_or (take 4 (drop 16 b)) 1 0 ≡ get_or b 17 0 = held_at b 1 (omega arith) in
    let h₂ : get_or (take 4 (drop 16 b)) 2 0 ≡ get_or b 18 0 = held_at b 2 (omega arith) in
    let h₃ : get_or (take 4 (drop 16 b)) 3 0 ≡ get_or b 19 0 = held_at b 3 (omega arith) in
    rw (
      m.first,
      m.second,
      m.third,
      z₀,
      z₁,
      z₂,
      h₀,
      h₁,
      h₂,
      h₃,
      flag-fits (get_or b 5 0) t.scrolling,
      flag-fits (get_or b 6 0) t.shown,
      flag-fits (get_or b 9 0) t.euro,
      flag-fits (get_or b 12 0) t.flickerless,
      k.kind,
      k.code,
      k.held,
    )

-- the whole list, in its parts
body_back : (b : List ℕ) → length b ≡ 512 → Intact b → Tidy b → body_of (condition_in b) ++ drop 510 b ≡ b
unfolding body_of
body_back b h m t =
    let p : List ℕ = packed_of (condition_in b) in
    let e : drop 200 b ≡ replicate 310 0 ++ drop 510 b =
    cut 200 310 b ∙ ap (λ (l : List ℕ). l ++ drop 510 b) (unused 310 200 b (omega arith) t.rest) in
    append_assoc p (replicate 310 0) (drop 510 b) ∙ ap (λ (l : List ℕ). p ++ l) (sym e) ∙ repacked b
    ∙ ap (λ (l : List ℕ). l ++ drop 24 b) (head-back b h m t) ∙ sym (bytewise 24 0 b (omega arith))

end_back : (b : List ℕ) → length b ≡ 512 → Intact b → drop 510 b ≡ check_of b % 256 ∷ check_of b / 256 ∷ []
end_back b h m =
    let le : length b ≤ 512 = omega arith in
    bytewise 2 510 b (omega arith) ∙ rw (m.low, m.high, drop_of_length-le b le)

tidy-back : (b : List ℕ) → length b ≡ 512 → intact b ≡ true → tidy b ≡ true → block_of (condition_in b) ≡ b
unfolding block_of seal_of
tidy-back b h i t =
    let m = intact-parts b i in
    let d : List ℕ = body_of (condition_in b) in
    let e : d ++ drop 510 b ≡ b = body_back b h m (tidy-parts b t) in
    let k : check_of d ≡ check_of b =
    sym (check-body d (drop 510 b) (length-body (condition_in b) (sized-in b (omega arith)))) ∙ ap check_of e in
    ap (λ (n : ℕ). d ++ (n % 256 ∷ n / 256 ∷ [])) k ∙ ap (λ (l : List ℕ). d ++ l) (sym (end_back b h m)) ∙ e

-- so the test in the bytes is the test by writing
pub tidy-same : (b : List ℕ) → length b ≡ 512 → intact b ≡ true → tidy b ≡ same_bytes (block_of (condition_in b)) b
tidy-same b h i = go (tidy b) refl (same_bytes (block_of (condition_in b)) b) refl
  where
    go : (p : Bool) → tidy b ≡ p → (q : Bool) → same_bytes (block_of (condition_in b)) b ≡ q → p ≡ q
    go true ep true eq = refl
    go true ep false eq = sym (same_refl b) ∙ ap (λ (l : List ℕ). same_bytes l b) (sym (tidy-back b h i ep)) ∙ eq
    go false ep true eq =
        sym ep ∙ ap tidy (sym (same-eq (block_of (condition_in b)) b eq)) ∙ block-tidy (condition_in b) (sized-in b (omega arith))
    go false ep false eq = refl
