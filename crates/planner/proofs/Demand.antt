-- Demand 3 over what a byte does: the plan of a condition that can be planned from delivers the picture, in one font or in two,
-- without a clear and with it.
use mathlib.Core.Path.{◌≡◌, refl, sym, ap, ◌∙◌}
use mathlib.Core.Bool.{Bool, true, false}
use mathlib.Core.List.{List, ◌∷◌, ◌++◌}
use Prim.Native.Nat.{ℕ, zero, suc, ◌+◌, ◌≤◌, ◌<◌}
use native.Mathlib.Omega.{arith}
use lib.ListN.{length, get_or, replicate, length-replicate, get_or-replicate}
use Rattle.laws.proofs.Tests.{by_cases}
use Rattle.condition.specs.declared.Condition.{Condition}
use Rattle.condition.specs.Bytes.{is_char, clear_of}
use Rattle.condition.specs.Steps.{reading_order, either_start, wrong}
use Rattle.moves.specs.Moves.{next}
use Rattle.moves.specs.Ways.{path}
use Rattle.planner.specs.Plan.{flagged, plan_of, plan, Delivers}
use Rattle.planner.specs.Fonts.{wrong_for, fonts_plan_of, fonts_plan, pictured_in, FontsDelivers}
use Rattle.planner.specs.Clear.{clear_wins, either_by, either_plan, either_fonts_plan}
use Rattle.planner.proofs.Canvas.{wrong_in}
use Rattle.planner.proofs.Costs.{flagged-yes, flagged-no, flagged-same, switch-none}
use Rattle.planner.proofs.Costs.{move_cost, move-most, cost-one, cost-most}
use Rattle.planner.proofs.Picture.{stays, switches-both}
use Rattle.planner.proofs.Serving.{Plannable, Switchable, made, made-length, Serves, serves}
use Rattle.planner.proofs.Clear.{either-least, cleared-plannable, cleared-switchable, either-serves}

-- One font ------------------------------------------------------------------------------------------------------------------------

-- where the wanted font of every flagged place is the selected one, the plan has no switch
module _ (e : Bool) (ws : List ℕ) (font : ℕ → ℕ) (w : ℕ → Bool) (q f : ℕ) where
  no-switches : (n i p : ℕ) → ((j : ℕ) → j < i + n → font j ≡ f)
      → plan_of ws q p (flagged w n i) ≡ fonts_plan_of e ws font q p f (flagged w n i)
  unfolding flagged plan_of fonts_plan_of
  no-switches zero i p h = refl
  no-switches (suc n) i p h =
      let rest : (r : ℕ) → plan_of ws q r (flagged w n (suc i)) ≡ fonts_plan_of e ws font q r f (flagged w n (suc i)) =
      λ r. no-switches n (suc i) r (λ j l. h j (omega arith)) in
      by_cases (w i)
      (λ y. rw (flagged-yes w n i y, h i (omega arith), switch-none e f)
      (ap (λ (t : List ℕ). path p i ++ get_or ws i 0 ∷ t) (rest (next i))))
      (λ y. rw (flagged-no w n i y) (rest p))

plan-made : (c : Condition) (wanted : List ℕ) (asked : ℕ) → plan c wanted asked ≡ made (λ i. c.font) c wanted asked
unfolding plan wrong wrong_in
plan-made c wanted asked =
    no-switches c.euro wanted (λ i. c.font) (wrong c wanted) asked c.font 40 0 c.cursor (λ j l. refl)

-- and costs its moves and its writes
pub plan-length : (c : Condition) (wanted : List ℕ) (asked : ℕ)
    → length (plan c wanted asked) ≡ move_cost asked c.cursor (flagged (wrong c wanted) 40 0)
unfolding wrong wrong_in
plan-length c wanted asked =
    ap length (plan-made c wanted asked) ∙ made-length (λ i. c.font) c wanted asked
    ∙ cost-one c.euro c.font asked c.cursor (flagged (wrong c wanted) 40 0)

plan-most : (c : Condition) (wanted : List ℕ) (asked : ℕ) → length (plan c wanted asked) ≤ 44
plan-most c wanted asked = rw (plan-length c wanted asked) (move-most asked (wrong c wanted) c.cursor)

-- bytes that serve in the selected font
abbrev InOneFont : (Condition → List ℕ → Bool) → Condition → List ℕ → ℕ → List ℕ → Type 0
InOneFont Allowed c wanted asked bytes = Serves Allowed (λ h. h ≡ c.font) c wanted (replicate 40 c.font) asked bytes

plan-serves : (c : Condition) (wanted : List ℕ) (asked : ℕ) → Plannable c wanted asked
    → InOneFont (reading_order false) c wanted asked (plan c wanted asked)
plan-serves c wanted asked r =
    rw (plan-made c wanted asked)
    (serves false (λ h. h ≡ c.font) (λ i. c.font) c wanted (replicate 40 c.font) asked r (length-replicate 40 c.font)
    (λ i l. get_or-replicate 40 i c.font 0 l) refl (λ i l. refl)
    (stays false c.euro (is_char c) c.font (λ i. c.font) wanted asked))

delivers-by : (Allowed : Condition → List ℕ → Bool) (c : Condition) (wanted : List ℕ) (asked : ℕ) (bytes : List ℕ)
    → InOneFont Allowed c wanted asked bytes → length bytes ≤ 44 → Delivers Allowed c wanted asked bytes
delivers-by Allowed c wanted asked bytes w m =
    record {
      gives = w.gives ∙ ap (pictured_in c wanted (replicate 40 c.font) asked) w.ok;
      ordered = w.ordered;
      fewest = w.fewest;
      most = m;
    }

-- the plan without a clear, of all strings without one
pub delivers : (c : Condition) (wanted : List ℕ) (asked : ℕ) → Plannable c wanted asked
    → Delivers (reading_order false) c wanted asked (plan c wanted asked)
delivers c wanted asked r = delivers-by _ c wanted asked _ (plan-serves c wanted asked r) (plan-most c wanted asked)

-- what the planner gives, of all strings with a clear and without one
pub either-most : (c : Condition) (wanted : List ℕ) (asked : ℕ) → length (either_plan c wanted asked) ≤ 44
either-most c wanted asked = omega (arith, either-least (λ d. plan d wanted asked) c, plan-most c wanted asked)

pub either-delivers : (c : Condition) (wanted : List ℕ) (asked : ℕ) → Plannable c wanted asked
    → Delivers (either_start false) c wanted asked (either_plan c wanted asked)
unfolding clear_of
either-delivers c wanted asked r =
    delivers-by _ c wanted asked _
    (either-serves false (λ h. h ≡ c.font) c r.ready wanted (replicate 40 c.font) asked (λ d. plan d wanted asked)
    (plan-serves c wanted asked r) (plan-serves (clear_of c) wanted asked (cleared-plannable c wanted asked r)))
    (either-most c wanted asked)

-- Two fonts -----------------------------------------------------------------------------------------------------------------------

module _ (c : Condition) (wanted fonts : List ℕ) (asked : ℕ) where
  fonts-made : fonts_plan c wanted fonts asked ≡ made (λ i. get_or fonts i 0) c wanted asked
  unfolding fonts_plan wrong_for wrong_in
  fonts-made = refl

  fonts-most : ((i : ℕ) → get_or fonts i 0 ≤ 1) → c.font ≤ 1 → length (fonts_plan c wanted fonts asked) ≤ 104
  fonts-most h l =
      let wrongs = wrong_in (λ i. get_or fonts i 0) wanted c.codes c.fonts in
      rw (fonts-made, made-length (λ i. get_or fonts i 0) c wanted asked)
      (cost-most c.euro (λ i. get_or fonts i 0) h asked wrongs c.cursor c.font l)

  fonts-serve : Plannable c wanted asked → Switchable c fonts
      → Serves (reading_order true) (λ h. h ≤ 1) c wanted fonts asked (fonts_plan c wanted fonts asked)
  fonts-serve r t =
      let both = switches-both c.euro (is_char c) (λ i. get_or fonts i 0) wanted asked t.free18 t.free19 t.free1a in
      rw fonts-made
      (serves true (λ h. h ≤ 1) (λ i. get_or fonts i 0) c wanted fonts asked r t.wanted-fonts-40 (λ i l. refl) t.selected-1
      (λ i l. t.wanted-fonts-1 i) both)

  fonts-by : (Allowed : Condition → List ℕ → Bool) (bytes : List ℕ) → Serves Allowed (λ h. h ≤ 1) c wanted fonts asked bytes
      → length bytes ≤ 104 → FontsDelivers Allowed c wanted fonts asked bytes
  fonts-by Allowed bytes w m =
      record {
        gives = w.gives ∙ ap (pictured_in c wanted fonts asked) (sym (ap (λ (d : Condition). d.font) w.gives));
        ordered = w.ordered;
        fewest = w.fewest;
        most = m;
      }

  pub fonts-deliver : Plannable c wanted asked → Switchable c fonts
      → FontsDelivers (reading_order true) c wanted fonts asked (fonts_plan c wanted fonts asked)
  fonts-deliver r t = fonts-by _ _ (fonts-serve r t) (fonts-most t.wanted-fonts-1 t.selected-1)

  pub either-fonts-most : ((i : ℕ) → get_or fonts i 0 ≤ 1) → c.font ≤ 1 → length (either_fonts_plan c wanted fonts asked) ≤ 104
  either-fonts-most h l = omega (arith, either-least (λ d. fonts_plan d wanted fonts asked) c, fonts-most h l)

pub either-fonts-deliver : (c : Condition) (wanted fonts : List ℕ) (asked : ℕ) → Plannable c wanted asked → Switchable c fonts
    → FontsDelivers (either_start true) c wanted fonts asked (either_fonts_plan c wanted fonts asked)
either-fonts-deliver c wanted fonts asked r t =
    fonts-by c wanted fonts asked _ _
    (either-serves true (λ h. h ≤ 1) c r.ready wanted fonts asked (λ d. fonts_plan d wanted fonts asked)
    (fonts-serve c wanted fonts asked r t)
    (fonts-serve (clear_of c) wanted fonts asked (cleared-plannable c wanted asked r) (cleared-switchable c fonts t)))
    (either-fonts-most c wanted fonts asked t.wanted-fonts-1 t.selected-1)

-- The one-font planner stays (document 02, W1): for wanted fonts all equal to the selected one both planners give the same bytes
pub one-font : (c : Condition) (wanted : List ℕ) (asked : ℕ)
    → fonts_plan c wanted (replicate 40 c.font) asked ≡ plan c wanted asked
unfolding fonts_plan plan wrong_for wrong
one-font c wanted asked =
    let font : ℕ → ℕ = λ i. get_or (replicate 40 c.font) i 0 in
    let all : (j : ℕ) → j < 40 → font j ≡ c.font = λ j l. get_or-replicate 40 j c.font 0 l in
    ap (λ (xs : List ℕ). fonts_plan_of c.euro wanted font asked c.cursor c.font xs)
    (flagged-same _ (wrong c wanted) 40 0 (λ j l h. rw (all j h)))
    ∙ sym (no-switches c.euro wanted font (wrong c wanted) asked c.font 40 0 c.cursor all)

-- with the clear too
pub either-one-font : (c : Condition) (wanted : List ℕ) (asked : ℕ)
    → either_fonts_plan c wanted (replicate 40 c.font) asked ≡ either_plan c wanted asked
unfolding either_by clear_wins clear_of
either-one-font c wanted asked =
    let plain = one-font c wanted asked in
    let cleared = one-font (clear_of c) wanted asked in
    let wins : clear_wins (λ d. fonts_plan d wanted (replicate 40 c.font) asked) c ≡ clear_wins (λ d. plan d wanted asked) c =
    rw (plain, cleared) in
    rw wins
    (by_cases (clear_wins (λ d. plan d wanted asked) c) (λ e. rw e (ap (λ (l : List ℕ). 0x0e ∷ l) cleared)) (λ e. rw e plain))
