-- What the loops over the cells keep: the one that counts a plan, and the one that puts it.
use mathlib.Core.Path.{◌≡◌, refl, sym, ap, ◌∙◌}
use mathlib.Core.Bool.{Bool, true, false}
use mathlib.Core.List.{List, [], ◌∷◌, ◌++◌, append_assoc}
use Prim.Native.Nat.{ℕ, suc, ◌+◌, ◌-◌, ◌≤◌, ◌<◌}
use native.Mathlib.Numerals.{add-one}
use native.Mathlib.Omega.{arith}
use lib.ListN.{length, get_or, length-append}
use lib.Seq.{sets, length-sets}
use Rattle.laws.proofs.Lists.{sets-append}
use Rattle.moves.specs.Moves.{next, Fewest}
use Rattle.moves.specs.Ways.{path}
use Rattle.planner.specs.Plan.{flagged}
use Rattle.planner.specs.Fonts.{switch, fonts_plan_of}
use Rattle.moves.proofs.Moving.{next-below}
use Rattle.moves.proofs.Rule.{fewest-length}
use Rattle.planner.proofs.Canvas.{wrong_in}
use Rattle.planner.proofs.Picture.{plan_over}
use Rattle.planner.proofs.Costs.{flagged-yes, flagged-no, flagged-length, cost-far, length-plan}

left-suc : (i : ℕ) → i < 40 → 40 - i ≡ suc (40 - (i + 1))
left-suc i h = omega arith

pub rest-no : (w : ℕ → Bool) (i : ℕ) → i < 40 → w i ≡ false → flagged w (40 - i) i ≡ flagged w (40 - (i + 1)) (i + 1)
rest-no w i h e =
    ap (λ (n : ℕ). flagged w n i) (left-suc i h) ∙ flagged-no w (40 - (i + 1)) i e
    ∙ ap (λ (n : ℕ). flagged w (40 - (i + 1)) n) (sym (add-one i))

pub rest-yes : (w : ℕ → Bool) (i : ℕ) → i < 40 → w i ≡ true → flagged w (40 - i) i ≡ i ∷ flagged w (40 - (i + 1)) (i + 1)
rest-yes w i h e =
    ap (λ (n : ℕ). flagged w n i) (left-suc i h) ∙ flagged-yes w (40 - (i + 1)) i e
    ∙ ap (λ (n : ℕ). i ∷ flagged w (40 - (i + 1)) n) (sym (add-one i))

-- from the condition's parts: the Euro mark, the cells, the cursor and the selected font
module _ (e : Bool) (ws gs cs fs : List ℕ) (q p₀ f₀ : ℕ) where
  abbrev pub bad : ℕ → Bool
  bad = wrong_in (λ j. get_or gs j 0) ws cs fs

  unfoldable pub plan_in : List ℕ
  plan_in = plan_over e (λ j. get_or gs j 0) ws q p₀ f₀ cs fs

  -- a byte holds its length
  pub plan-far : length plan_in ≤ 243
  unfolding plan_in
  plan-far =
      let wrongs = flagged bad 40 0 in
      let far = cost-far e (λ j. get_or gs j 0) q p₀ f₀ wrongs in
      omega (arith, length-plan e (λ j. get_or gs j 0) ws q p₀ f₀ wrongs, far, flagged-length bad 40 0)

  -- what is left of the plan at the cell i, from the place p and with f selected
  unfoldable pub rest : ℕ → ℕ → ℕ → List ℕ
  rest p f i = fonts_plan_of e ws (λ j. get_or gs j 0) q p f (flagged bad (40 - i) i)

  -- the bytes at a wrong cell behind its way
  abbrev pub written : ℕ → ℕ → List ℕ
  written f i = switch e f (get_or gs i 0) ++ get_or ws i 0 ∷ []

  -- and what is left behind it
  abbrev pub behind : ℕ → List ℕ
  behind i = rest (next i) (get_or gs i 0) (i + 1)

  pub rest-skip : (p f i : ℕ) → i < 40 → bad i ≡ false → rest p f i ≡ rest p f (i + 1)
  unfolding rest
  rest-skip p f i h b = ap (λ (l : List ℕ). fonts_plan_of e ws (λ j. get_or gs j 0) q p f l) (rest-no bad i h b)

  pub rest-write : (p f i : ℕ) → i < 40 → bad i ≡ true → rest p f i ≡ path p i ++ (written f i ++ behind i)
  unfolding rest fonts_plan_of
  rest-write p f i h b =
      ap (λ (l : List ℕ). fonts_plan_of e ws (λ j. get_or gs j 0) q p f l) (rest-yes bad i h b)
      ∙ ap (λ (l : List ℕ). path p i ++ l) (sym (append_assoc (switch e f (get_or gs i 0)) (get_or ws i 0 ∷ []) _))

  pub rest_end : (p f i : ℕ) → 40 ≤ i → rest p f i ≡ path p q
  unfolding rest flagged fonts_plan_of
  rest_end p f i h = ap (λ (n : ℕ). fonts_plan_of e ws (λ j. get_or gs j 0) q p f (flagged bad n i)) (zero_left i h)
    where
      zero_left : (i : ℕ) → 40 ≤ i → 40 - i ≡ 0
      zero_left i h = omega arith

  pub written-length : (f i : ℕ) → length (written f i) ≡ length (switch e f (get_or gs i 0)) + 1
  written-length f i = length-append (switch e f (get_or gs i 0)) (get_or ws i 0 ∷ [])

  rest-length : (p f i : ℕ) → i < 40 → bad i ≡ true
      → length (rest p f i) ≡ length (path p i) + (length (written f i) + length (behind i))
  rest-length p f i h b =
      ap length (rest-write p f i h b) ∙ length-append (path p i) _
      ∙ ap (λ (n : ℕ). length (path p i) + n) (length-append (written f i) (behind i))

  -- from k₀ on: what is counted, and what is left
  pub record Counting (k₀ p f k i : ℕ) : Type 0 where
    pub upto : i ≤ 40
    pub inside : p < 40
    pub count : k + length (rest p f i) ≡ k₀ + length plan_in

  pub count-start : (k : ℕ) → p₀ < 40 → Counting k p₀ f₀ k 0
  unfolding rest plan_in
  count-start k h = record { upto = omega arith; inside = h; count = omega arith }

  module _ {k₀ p f k i : ℕ} (v : Counting k₀ p f k i) where
    pub count-skip : (p' f' k' : ℕ) → i < 40 → bad i ≡ false → p' ≡ p → f' ≡ f → k' ≡ k → Counting k₀ p' f' k' (i + 1)
    count-skip p' f' k' h b ep ef ek =
        rw (ep, ef, ek)
        (record { upto = omega arith; inside = v.inside; count = rw (← rest-skip p f i h b) v.count })

    -- the bytes at a wrong cell, by the numbers of the moves and of the switch
    pub count-sum : (way more : ℕ) → Fewest p i way → more ≡ length (switch e f (get_or gs i 0)) → i < 40
        → k + way + more + 1 ≡ k + (length (path p i) + length (written f i))
    count-sum way more w m h = omega (arith, fewest-length p i way w v.inside h, m, written-length f i)

    pub count_room : i < 40 → bad i ≡ true → k + (length (path p i) + length (written f i)) ≤ k₀ + length plan_in
    count_room h b = omega (arith, v.count, rest-length p f i h b)

    -- a byte holds that, where one holds the plan behind k₀
    pub count_fits : k₀ ≤ 1 → i < 40 → bad i ≡ true → k + (length (path p i) + length (written f i)) < 256
    count_fits l h b = omega (arith, count_room h b, plan-far)

    pub count-write : (p' f' k' : ℕ) → i < 40 → bad i ≡ true → k' ≡ k + (length (path p i) + length (written f i)) → p' ≡ next i
        → f' ≡ get_or gs i 0 → Counting k₀ p' f' k' (i + 1)
    count-write p' f' k' h b ek ep ef =
        rw (ep, ef)
        (record { upto = omega arith; inside = next-below i h; count = omega (arith, v.count, rest-length p f i h b, ek) })

    -- and the way to the asked cursor
    pub count-end : 40 ≤ i → k + length (path p q) ≡ k₀ + length plan_in
    count-end h = omega (arith, v.count, ap length (rest_end p f i h))

    pub end_fits : k₀ ≤ 1 → 40 ≤ i → k + length (path p q) < 256
    end_fits l h = omega (arith, count-end h, plan-far)

  -- what the loop that puts the plan keeps besides
  pub record Planning (k₀ : ℕ) (out₀ out : List ℕ) (p f k i : ℕ) : Type 0 where
    pub counting : Counting k₀ p f k i
    pub same : sets out₀ k₀ plan_in ≡ sets out k (rest p f i)
    pub long : length out ≡ length out₀
    pub room : k₀ + length plan_in ≤ length out₀

  pub plan-start : (k : ℕ) (out : List ℕ) → p₀ < 40 → k + length plan_in ≤ length out → Planning k out out p₀ f₀ k 0
  unfolding rest plan_in
  plan-start k out h r =
      record { counting = count-start k h; same = refl; long = refl; room = r }

  module _ {k₀ : ℕ} {out₀ out : List ℕ} {p f k i : ℕ} (v : Planning k₀ out₀ out p f k i) where
    pub plan-skip : (out' : List ℕ) (p' f' k' : ℕ) → i < 40 → bad i ≡ false → out' ≡ out → p' ≡ p → f' ≡ f → k' ≡ k
        → Planning k₀ out₀ out' p' f' k' (i + 1)
    plan-skip out' p' f' k' h b eo ep ef ek =
        record {
          counting = count-skip v.counting p' f' k' h b ep ef ek;
          same = rw (eo, ep, ef, ek, ← rest-skip p f i h b) v.same;
          long = rw eo v.long;
          room = v.room;
        }

    -- room for the way to a wrong cell, and for what is written there
    pub way-room : i < 40 → bad i ≡ true → k + length (path p i) ≤ length out
    way-room h b = omega (arith, count_room v.counting h b, v.long, v.room)

    pub code-room : (out' : List ℕ) (at : ℕ) → i < 40 → bad i ≡ true
        → (at ≡ k + length (path p i)) × (out' ≡ sets out k (path p i))
        → at + length (switch e f (get_or gs i 0)) < length out'
    code-room out' at h b d =
        let l : length out' ≡ length out = ap length d.1 ∙ length-sets out k (path p i) in
        let w = written-length f i in
        omega (arith, count_room v.counting h b, v.long, v.room, d.0, l, w)

    pub plan-write : (mid out' : List ℕ) (at p' f' k' : ℕ) → i < 40 → bad i ≡ true
        → (at ≡ k + length (path p i)) × (mid ≡ sets out k (path p i))
        → (k' ≡ at + length (written f i)) × (out' ≡ sets mid at (written f i)) → p' ≡ next i → f' ≡ get_or gs i 0
        → Planning k₀ out₀ out' p' f' k' (i + 1)
    plan-write mid out' at p' f' k' h x d b ep ef =
        record {
          counting = count-write v.counting p' f' k' h x (omega (arith, d.0, b.0)) ep ef;
          same =
              v.same ∙ ap (λ (l : List ℕ). sets out k l) (rest-write p f i h x)
              ∙ sets-append out k (path p i) (written f i ++ behind i)
              ∙ sets-append (sets out k (path p i)) (k + length (path p i)) (written f i) (behind i)
              ∙ rw (ep, ef, b.0, b.1, d.0, d.1);
          long = ap length b.1 ∙ length-sets mid at (written f i) ∙ ap length d.1 ∙ length-sets out k (path p i) ∙ v.long;
          room = v.room;
        }

    -- room for the way to the asked cursor, and the end
    pub end-room : 40 ≤ i → k + length (path p q) ≤ length out
    end-room h = omega (arith, count-end v.counting h, v.long, v.room)

    pub plan-end : (out' : List ℕ) (at : ℕ) → 40 ≤ i → (at ≡ k + length (path p q)) × (out' ≡ sets out k (path p q))
        → (at ≡ k₀ + length plan_in) × (out' ≡ sets out₀ k₀ plan_in)
    plan-end out' at h d = (
      d.0 ∙ count-end v.counting h,
      d.1 ∙ ap (λ (l : List ℕ). sets out k l) (sym (rest_end p f i h)) ∙ sym v.same,
    )

    pub end-long : (out' : List ℕ) → out' ≡ sets out k (path p q) → length out' ≡ length out₀
    end-long out' o = ap length o ∙ length-sets out k (path p q) ∙ v.long
