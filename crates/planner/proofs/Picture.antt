-- The plan gives the picture and the cursor, and no reading-order string that does is shorter.
use mathlib.Core.Path.{◌≡◌, refl, sym, ap, ◌∙◌, subst}
use mathlib.Core.Logic.{◌≢◌, ⊎_elim}
use mathlib.Core.Bool.{Bool, true, false, cond, not, ◌&&◌, and-false, or-true}
use mathlib.Core.List.{List, [], ◌∷◌, ◌++◌, append-nil}
use Prim.Native.Nat.{ℕ, zero, suc, ◌+◌, ◌≤◌, ◌<◌}
use native.Mathlib.Omega.{arith}
use lib.Dec.{eqb, leb}
use lib.ListN.{length, get_or, set, length-set}
use lib.Seq.{get_or-set_same, get_or-set_other, ext_get_or}
use borrow.Author.Tests.{eqb-true, eqb-false, eq-eqb, leb-true, le-leb, not-false}
use Rattle.laws.proofs.Tests.{by_cases, clash, both, by_equal}
use Rattle.moves.specs.Moves.{any, next, moves, move, dist}
use Rattle.moves.specs.Ways.{path, path_of, first_byte}
use Rattle.planner.proofs.Canvas.{Part, none, escape, place, back, Canvas, canvas, whole, wrong_in}
use Rattle.planner.proofs.Canvas.{step_at, run, may_come, low_at, ordered, by_kind}
use Rattle.planner.specs.Plan.{flagged}
use Rattle.planner.specs.Fonts.{wrong_cell, switch, fonts_plan_of}
use Rattle.moves.proofs.Moving.{dist-step, dist-most, dist-self, dist-zero, first-byte, next-below, move-below}
use Rattle.planner.proofs.Costs.{flagged-yes, flagged-no, flagged-same, flagged-none}
use Rattle.planner.proofs.Costs.{switch-none, switch-on, switch_back, switch-two, back_length}
use Rattle.planner.proofs.Costs.{total, cost, cost_step, cost-switch, put-total, length-plan}

module _ (font : ℕ → ℕ) (ws cs fs : List ℕ) where
  -- a cell that is not wrong has the wanted code and the wanted font
  right-code : (i : ℕ) → wrong_in font ws cs fs i ≡ false → get_or cs i 0 ≡ get_or ws i 0
  unfolding wrong_in
  right-code i h = eqb-true _ _ (both (eqb (get_or cs i 0) (get_or ws i 0)) _ (not-false _ h)).0

  right-font : (i : ℕ) → wrong_in font ws cs fs i ≡ false → get_or fs i 0 ≡ font i
  unfolding wrong_in
  right-font i h = eqb-true _ _ (both (eqb (get_or cs i 0) (get_or ws i 0)) _ (not-false _ h)).1

  -- and the other way round
  right-wrong : (i : ℕ) → get_or cs i 0 ≡ get_or ws i 0 → get_or fs i 0 ≡ font i → wrong_in font ws cs fs i ≡ false
  unfolding wrong_in
  right-wrong i c e = rw (eq-eqb _ _ c, eq-eqb _ _ e)

  -- a write makes its own cell right or wrong, and no other
  wrong-same : (p b f : ℕ) → p < length cs → p < length fs
      → wrong_in font ws (set cs p b) (set fs p f) p ≡ wrong_cell b f (get_or ws p 0) (font p)
  unfolding wrong_in
  wrong-same p b f hc hf = λ i. wrong_cell (get_or-set_same cs p b 0 hc i) (get_or-set_same fs p f 0 hf i) (get_or ws p 0) (font p)

  wrong-other : (p b f j : ℕ) → j ≢ p → wrong_in font ws (set cs p b) (set fs p f) j ≡ wrong_in font ws cs fs j
  unfolding wrong_in
  wrong-other p b f j h = λ i. wrong_cell (get_or-set_other cs p j b 0 h i) (get_or-set_other fs p j f 0 h i) (get_or ws j 0)
      (font j)

up : (P : ℕ → Type 0) (i : ℕ) → ((j : ℕ) → j < i → P j) → P i → (j : ℕ) → j < suc i → P j
up P i h z j l = by_equal j i (λ e. subst P (sym e) z) (λ n. h j (omega (arith, n)))

-- bytes of a step that are counted already
abbrev extra : Part → ℕ
extra none = 0
extra escape = 1
extra place = 2
extra back = 1

abbrev pub wrongs_in : (ℕ → ℕ) → List ℕ → List ℕ → List ℕ → List ℕ
wrongs_in font ws cs fs = flagged (wrong_in font ws cs fs) 40 0

-- the plan without a clear from a place and a selected font, over the cells as they stand
abbrev pub plan_over : Bool → (ℕ → ℕ) → List ℕ → ℕ → ℕ → ℕ → List ℕ → List ℕ → List ℕ
plan_over mark font ws q p f cs fs = fonts_plan_of mark ws font q p f (wrongs_in font ws cs fs)

-- Fewest -----------------------------------------------------------------------------------------------------------------------

-- every cell is right, and the cursor is where asked
pub record Done (font : ℕ → ℕ) (ws : List ℕ) (q : ℕ) (g : Canvas) : Type 0 where
  pub right : (i : ℕ) → i < 40 → wrong_in font ws g.codes g.fonts i ≡ false
  pub here : g.cursor ≡ q

module _ (switching mark : Bool) (chars : ℕ → Bool) (font : ℕ → ℕ) (ws : List ℕ) (q : ℕ) where
  -- what it costs to write all that is wrong, from a place and a selected font
  abbrev due : ℕ → ℕ → List ℕ → List ℕ → ℕ
  due p f cs fs = cost mark font q (p, f) (wrongs_in font ws cs fs)

  -- a write of b at p, after which the cells up to p are right
  put-cost : (p b f : ℕ) (cs fs : List ℕ) → length cs ≡ 40 → length fs ≡ 40 → p < 40
      → ((i : ℕ) → i < suc p → i < 40 → wrong_in font ws (set cs p b) (set fs p f) i ≡ false)
      → due p f cs fs ≤ 1 + due (next p) f (set cs p b) (set fs p f)
  unfolding move
  put-cost p b f cs fs lc lf hp r =
      let e : f ≡ font p =
      sym (get_or-set_same fs p f 0 (omega arith)) ∙ right-font font ws (set cs p b) (set fs p f) p (r p (omega arith) hp) in
      put-total _ _ _ 0 p (p, f) (next p, f) (wrong_in font ws cs fs) (wrong_in font ws (set cs p b) (set fs p f)) hp
      (omega (arith, dist-self p, ap length (ap (switch mark f) (sym e) ∙ switch-none mark f)))
      (ap (λ (g : ℕ). (next p, g)) (sym e))
      (λ x. omega (arith, dist-step 0x09 p x refl)) (dist-step 0x09 p q refl)
      (λ j l. r j l (omega arith)) (λ j h. wrong-other font ws cs fs p b f j h)

  -- what a string of steps shows of where it starts: the cells that it may no longer write are right, and it pays for all that are
  -- wrong
  record Paid (k : Part) (p lo f : ℕ) (cs fs bs : List ℕ) : Type 0 where
    below : (i : ℕ) → i < lo → i < 40 → wrong_in font ws cs fs i ≡ false
    enough : due p f cs fs ≤ extra k + length bs

  back_one : mark ≡ false → (f h : ℕ) → length (switch mark f h) ≤ 1 + length (switch mark 0 h)
  back_one e f h = omega (arith, switch_back mark f h, ap back_length e)

  fewest : (bs : List ℕ) (k : Part) (p lo f : ℕ) (cs fs : List ℕ) → length cs ≡ 40 → length fs ≡ 40 → p < 40
      → ordered switching mark chars (canvas k p f cs fs) lo bs ≡ true
      → Done font ws q (run switching mark chars (canvas k p f cs fs) bs) → Paid k p lo f cs fs bs
  unfolding step_at may_come low_at whole total
  fewest [] none p lo f cs fs lc lf hp o d =
      record {
        below = λ i l h. d.right i h;
        enough = rw (flagged-none (wrong_in font ws cs fs) 40 0 (λ j l. d.right j l), d.here, dist-self q) (omega arith);
      }
  fewest [] escape p lo f cs fs lc lf hp o d = clash o refl
  fewest [] place p lo f cs fs lc lf hp o d = clash o refl
  fewest [] back p lo f cs fs lc lf hp o d = clash o refl
  fewest (b ∷ bs) none p lo f cs fs lc lf hp o d =
      by_kind switching mark chars
      (λ g l. ordered switching mark chars g l bs ≡ true → Done font ws q (run switching mark chars g bs)
      → Paid none p lo f cs fs (b ∷ bs))
      p lo f cs fs b (both (may_come switching mark chars none p lo b) _ o).0
      (λ e l o d.
      let r = fewest bs none (next p) (suc p) f (set cs p b) (set fs p f) (length-set cs p b ∙ lc) (length-set fs p f ∙ lf)
      (next-below p hp) o d in
      record {
        below = λ i m h. sym (wrong-other font ws cs fs p b f i (omega arith)) ∙ r.below i (omega arith) h;
        enough = omega (arith, put-cost p b f cs fs lc lf hp r.below, r.enough);
      })
      (λ e z o d. let r = fewest bs escape p lo f cs fs lc lf hp o d in
      record { below = r.below; enough = omega (arith, r.enough) })
      (λ e m o d. let r = fewest bs none (move b p) lo f cs fs lc lf (move-below b p hp) o d in
      let t = cost_step mark font 1 q p (move b p) f (wrongs_in font ws cs fs) (λ x. dist-step b p x m) in
      record { below = r.below; enough = omega (arith, r.enough, t) })
      (λ e s y o d. let r = fewest bs none p lo 1 cs fs lc lf hp o d in
      let t = cost-switch mark font 1 q p f 1 (wrongs_in font ws cs fs) (switch-on mark f) in
      record { below = r.below; enough = omega (arith, r.enough, t) })
      (λ e s y k o d. let r = fewest bs back p lo f cs fs lc lf hp o d in
      record { below = r.below; enough = omega (arith, r.enough) })
      (λ e s y k o d. let r = fewest bs none p lo 0 cs fs lc lf hp o d in
      let t = cost-switch mark font 1 q p f 0 (wrongs_in font ws cs fs) (back_one k f) in
      record { below = r.below; enough = omega (arith, r.enough, t) })
      (both (may_come switching mark chars none p lo b) _ o).1 d
  fewest (b ∷ bs) escape p lo f cs fs lc lf hp o d =
      let r = fewest bs place p lo f cs fs lc lf hp (both (eqb b 0x48) _ o).1 d in
      record { below = r.below; enough = omega (arith, r.enough) }
  fewest (b ∷ bs) place p lo f cs fs lc lf hp o d =
      let l : b ≤ 0x27 = leb-true b 0x27 (both (leb b 0x27) _ o).0 in
      let r = fewest bs none b lo f cs fs lc lf (omega arith) (both (leb b 0x27) _ o).1 d in
      let t = cost_step mark font 3 q p b f (wrongs_in font ws cs fs) (λ x. omega (arith, dist-most p x)) in
      record { below = r.below; enough = omega (arith, r.enough, t) }
  fewest (b ∷ bs) back p lo f cs fs lc lf hp o d =
      let r = fewest bs none p lo 0 cs fs lc lf hp (both (not (chars b) && eqb b 0x1a) _ o).1 d in
      let t = cost-switch mark font 2 q p f 0 (wrongs_in font ws cs fs) (switch-two mark f) in
      record { below = r.below; enough = omega (arith, r.enough, t) }

-- Delivery ---------------------------------------------------------------------------------------------------------------------

-- `Ok` holds of the fonts that may be selected: one alone, or both
module _ (switching mark : Bool) (chars : ℕ → Bool) (Ok : ℕ → Type 0) (font : ℕ → ℕ) (ws : List ℕ) (q : ℕ) where
  pub record Final (g : Canvas) : Type 0 where
    pub codes_length : length g.codes ≡ 40
    pub fonts_length : length g.fonts ≡ 40
    pub done : Done font ws q g
    pub selected : Ok g.font

  -- a string of steps that gives the picture and the cursor
  pub record Paints (g : Canvas) (lo : ℕ) (bs : List ℕ) : Type 0 where
    pub steps : ordered switching mark chars g lo bs ≡ true
    pub final : Final (run switching mark chars g bs)

  -- the switch from any such font to any other is of the steps
  abbrev pub Switches : Type 0
  Switches =
      (f h p lo : ℕ) (cs fs t : List ℕ) → Ok f → Ok h → Paints (canvas none p h cs fs) lo t
      → Paints (canvas none p f cs fs) lo (switch mark f h ++ t)

  put-paints : (p lo b f : ℕ) (cs fs t : List ℕ) → chars b ≡ true → lo ≤ p
      → Paints (canvas none (next p) f (set cs p b) (set fs p f)) (suc p) t → Paints (canvas none p f cs fs) lo (b ∷ t)
  unfolding step_at may_come low_at
  put-paints p lo b f cs fs t e h g = record { steps = rw (e, and-false, le-leb lo p h) g.steps; final = rw e g.final }

  module _ (free1b : chars 0x1b ≡ false) (free : (b : ℕ) → any (eqb b) moves ≡ true → chars b ≡ false) where
    move-paints : (m p lo f : ℕ) (cs fs t : List ℕ) → any (eqb m) moves ≡ true → eqb m 0x1b ≡ false
        → Paints (canvas none (move m p) f cs fs) lo t → Paints (canvas none p f cs fs) lo (m ∷ t)
    unfolding step_at may_come low_at
    move-paints m p lo f cs fs t i z g =
        let c = free m i in
        record { steps = rw (c, z, i, or-true) g.steps; final = rw (c, z, i) g.final }

    jump-paints : (p lo r f : ℕ) (cs fs t : List ℕ) → r < 40
        → Paints (canvas none r f cs fs) lo t → Paints (canvas none p f cs fs) lo (0x1b ∷ 0x48 ∷ r ∷ t)
    unfolding step_at may_come low_at
    jump-paints p lo r f cs fs t h g =
        record { steps = rw (free1b, or-true, le-leb r 0x27 (omega arith)) g.steps; final = rw free1b g.final }

    walk-paints : (n a b lo f : ℕ) (cs fs t : List ℕ) → dist a b ≡ n → b < 40 → Paints (canvas none b f cs fs) lo t
        → Paints (canvas none a f cs fs) lo (path_of n a b ++ t)
    unfolding path_of
    walk-paints zero a b lo f cs fs t e h g = rw (dist-zero a b e) g
    walk-paints (suc n) a b lo f cs fs t e h g =
        let m = first_byte n a b in
        ⊎_elim
        (λ r. rw r.0
        (move-paints m a lo f cs fs (path_of n (move m a) b ++ t) r.1 r.0
        (walk-paints n (move m a) b lo f cs fs t r.2 h g)))
        (λ r. rw r.0 (jump-paints a lo b f cs fs t h g))
        (first-byte n a b e)

    module _ (switches : Switches) (fonts-ok : (i : ℕ) → i < 40 → Ok (font i))
        (shown : (i : ℕ) → i < 40 → chars (get_or ws i 0) ≡ true) (q-in : q < 40) where
      pub deliver : (n i p lo f : ℕ) (cs fs : List ℕ) → Ok f → length cs ≡ 40 → length fs ≡ 40 → i + n ≡ 40 → lo ≤ i
          → ((j : ℕ) → j < i → wrong_in font ws cs fs j ≡ false)
          → Paints (canvas none p f cs fs) lo (fonts_plan_of mark ws font q p f (flagged (wrong_in font ws cs fs) n i))
      unfolding fonts_plan_of path flagged whole
      deliver zero i p lo f cs fs k lc lf e l h =
          let d : Done font ws q (canvas none q f cs fs) = record { right = λ j m. h j (omega arith); here = refl } in
          rw (← append-nil (path p q)) (walk-paints (dist p q) p q lo f cs fs [] refl q-in
          (record { steps = refl; final = record { codes_length = lc; fonts_length = lf; done = d; selected = k } }))
      deliver (suc n) i p lo f cs fs k lc lf e l h =
          let w = wrong_in font ws cs fs in
          let b = get_or ws i 0 in
          let cs1 = set cs i b in
          let fs1 = set fs i (font i) in
          let v = wrong_in font ws cs1 fs1 in
          let alike : (j : ℕ) → j ≢ i → v j ≡ w j = λ j y. wrong-other font ws cs fs i b (font i) j y in
          let here : v i ≡ false =
          wrong-same font ws cs fs i b (font i) (omega arith) (omega arith)
          ∙ rw (eq-eqb b b refl, eq-eqb (font i) (font i) refl) in
          by_cases (w i)
          (λ z. rw (flagged-yes w n i z, flagged-same w v n (suc i) (λ j m r. sym (alike j (omega arith))))
          (walk-paints (dist p i) p i lo f cs fs _ refl (omega arith)
          (switches f (font i) i lo cs fs _ k (fonts-ok i (omega arith))
          (put-paints i lo b (font i) cs fs _ (shown i (omega arith)) l
          (deliver n (suc i) (next i) (suc i) (font i) cs1 fs1 (fonts-ok i (omega arith)) (length-set cs i b ∙ lc)
          (length-set fs i (font i) ∙ lf) (omega arith) (omega arith)
          (up _ i (λ j m. alike j (omega arith) ∙ h j m) here))))))
          (λ z. rw (flagged-no w n i z) (deliver n (suc i) p lo f cs fs k lc lf (omega arith) (omega arith) (up _ i h z)))

-- one font alone needs no switch
pub stays : (switching mark : Bool) (chars : ℕ → Bool) (f : ℕ) (font : ℕ → ℕ) (ws : List ℕ) (q : ℕ)
    → Switches switching mark chars (λ h. h ≡ f) font ws q
stays switching mark chars f font ws q g h p lo cs fs t eg eh z =
    let e : switch mark g h ≡ [] = ap (λ (k : ℕ). switch mark k h) (eg ∙ sym eh) ∙ switch-none mark h in
    rw (e, eg ∙ sym eh) z

-- both fonts, where 18h, 19h and 1Ah are steps
module _ (mark : Bool) (chars : ℕ → Bool) (font : ℕ → ℕ) (ws : List ℕ) (q : ℕ)
    (free18 : chars 0x18 ≡ false) (free19 : chars 0x19 ≡ false) (free1a : chars 0x1a ≡ false) where
  abbrev Gets : ℕ → ℕ → ℕ → List ℕ → List ℕ → List ℕ → Type 0
  Gets f p lo cs fs t = Paints true mark chars (λ h. h ≤ 1) font ws q (canvas none p f cs fs) lo t

  on-paints : (f p lo : ℕ) (cs fs t : List ℕ) → Gets 1 p lo cs fs t → Gets f p lo cs fs (0x19 ∷ t)
  unfolding step_at may_come low_at
  on-paints f p lo cs fs t z = record { steps = rw free19 z.steps; final = rw free19 z.final }

  back-paints : (f p lo : ℕ) (cs fs t : List ℕ) → Gets 0 p lo cs fs t
      → Gets f p lo cs fs (cond mark (0x18 ∷ 0x1a ∷ []) (0x18 ∷ []) ++ t)
  unfolding step_at may_come low_at
  back-paints f p lo cs fs t z =
      by_cases mark
      (λ e.
      record { steps = rw (e, free18, free1a) (rw e at z.steps); final = rw (e, free18) (rw e at z.final) })
      (λ e. record { steps = rw (e, free18) (rw e at z.steps); final = rw (e, free18) (rw e at z.final) })

  pub switches-both : Switches true mark chars (λ h. h ≤ 1) font ws q
  unfolding switch
  switches-both f h p lo cs fs t lf lh z =
      by_cases (eqb f h) (λ e. rw (e, eqb-true f h e) z)
      (λ e.
      by_cases (eqb h 1) (λ y. rw (e, y) (on-paints f p lo cs fs t (rw (eqb-true h 1 y) at z)))
      (λ y. let w : h ≡ 0 = omega (arith, eqb-false h 1 y) in
      rw (e, y) (back-paints f p lo cs fs t (rw w at z))))

-- The picture ------------------------------------------------------------------------------------------------------------------

-- Demand 3 over the canvas. A string reaches the picture: read from g it is of the planner's steps in reading order, and it ends in
-- the wanted codes and fonts, and the cursor where asked
pub record Reaches (switching mark : Bool) (chars : ℕ → Bool) (ws gs : List ℕ) (q : ℕ) (g : Canvas) (bs : List ℕ) : Type 0 where
  pub steps : ordered switching mark chars g 0 bs ≡ true
  pub codes : (run switching mark chars g bs).codes ≡ ws
  pub fonts : (run switching mark chars g bs).fonts ≡ gs
  pub cursor : (run switching mark chars g bs).cursor ≡ q

-- `font` gives the wanted fonts gs by their place
module _ (switching mark : Bool) (chars : ℕ → Bool) (font : ℕ → ℕ) (ws gs : List ℕ) (q p f : ℕ) (cs fs : List ℕ)
    (lw : length ws ≡ 40) (lg : length gs ≡ 40) (lc : length cs ≡ 40) (lf : length fs ≡ 40)
    (same : (i : ℕ) → i < 40 → get_or gs i 0 ≡ font i) (hp : p < 40) where
  abbrev plan_here : List ℕ
  plan_here = plan_over mark font ws q p f cs fs

  pub plan-reaches : (Ok : ℕ → Type 0) → Paints switching mark chars Ok font ws q (canvas none p f cs fs) 0 plan_here
      → Reaches switching mark chars ws gs q (canvas none p f cs fs) plan_here
      × Ok (run switching mark chars (canvas none p f cs fs) plan_here).font
  plan-reaches Ok g =
      let r = run switching mark chars (canvas none p f cs fs) plan_here in
      let d = g.final.done.right in (
        record {
          steps = g.steps;
          codes = ext_get_or 0 r.codes ws (g.final.codes_length ∙ sym lw)
              (λ i l. right-code font ws r.codes r.fonts i (d i (omega (arith, g.final.codes_length))));
          fonts = ext_get_or 0 r.fonts gs (g.final.fonts_length ∙ sym lg)
              (λ i l. let m : i < 40 = omega (arith, g.final.fonts_length) in
              right-font font ws r.codes r.fonts i (d i m) ∙ sym (same i m));
          cursor = g.final.done.here;
        },
        g.final.selected,
      )

  pub plan-fewest : (bs : List ℕ) → Reaches switching mark chars ws gs q (canvas none p f cs fs) bs → length plan_here ≤ length bs
  plan-fewest bs h =
      let r = run switching mark chars (canvas none p f cs fs) bs in
      let d : Done font ws q r = record {
        right = λ i l.
            right-wrong font ws r.codes r.fonts i (ap (λ (k : List ℕ). get_or k i 0) h.codes)
            (ap (λ (k : List ℕ). get_or k i 0) h.fonts ∙ same i l);
        here = h.cursor;
      } in
      let paid = fewest switching mark chars font ws q bs none p 0 f cs fs lc lf hp h.steps d in
      omega (arith, length-plan mark font ws q p f (wrongs_in font ws cs fs), paid.enough)
