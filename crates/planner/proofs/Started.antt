-- What the loops leave, with the clear or without it.
use mathlib.Core.Path.{◌≡◌, refl, sym, ap, ◌∙◌}
use mathlib.Core.Bool.{Bool, true, false}
use mathlib.Core.List.{List, ◌++◌}
use Prim.Native.Nat.{ℕ, ◌+◌, ◌≤◌}
use native.Mathlib.Omega.{arith}
use native.Mathlib.Nat.{zero-add}
use lib.ListN.{length, length-append}
use lib.Seq.{sets, length-sets}
use mir.Val.{bool_byte}
use Rattle.laws.proofs.Lists.{sets-append}
use Rattle.condition.specs.declared.Condition.{Condition}
use Rattle.condition.specs.Bytes.{clear_of}
use Rattle.planner.specs.Plan.{at_start}
use Rattle.planner.specs.Fonts.{wrong_for, fonts_plan}
use Rattle.planner.specs.Clear.{clearing, start_of, fonts_by}
use Rattle.planner.proofs.Canvas.{wrong_in}
use Rattle.planner.proofs.Counting.{plan_in}
use Rattle.planner.proofs.Putting.{put_front}

pub clearing-length : (clear : Bool) → length (clearing clear) ≡ bool_byte clear
clearing-length true = refl
clearing-length false = refl

pub clear-most : (clear : Bool) → bool_byte clear ≤ 1
clear-most true = omega arith
clear-most false = omega arith

-- a buffer keeps its length n
pub clearing-long : (clear : Bool) (out out₁ : List ℕ) (n : ℕ) → out₁ ≡ sets out 0 (clearing clear) → n ≡ length out₁
    → n ≡ length out
clearing-long clear out out₁ n e l = l ∙ ap length e ∙ length-sets out 0 (clearing clear)

-- the clear leaves the Euro mark, the cursor and the selected font
started : (clear : Bool) (c : Condition) (ws gs : List ℕ) (q : ℕ)
    → fonts_plan (start_of clear c) ws gs q
    ≡ plan_in c.euro ws gs (start_of clear c).codes (start_of clear c).fonts q c.cursor c.font
unfolding fonts_plan wrong_for plan_in wrong_in clear_of
started true c ws gs q = refl
started false c ws gs q = refl

-- with the codes cs and the fonts fs that the plan starts from
module _ (clear : Bool) (c : Condition) (ws gs cs fs : List ℕ) (q : ℕ) (ec : cs ≡ (start_of clear c).codes)
    (ef : fs ≡ (start_of clear c).fonts) where
  -- the plan behind the clear
  abbrev onward : List ℕ
  onward = plan_in c.euro ws gs cs fs q c.cursor c.font

  same : fonts_plan (start_of clear c) ws gs q ≡ onward
  same = rw (ec, ef) (started clear c ws gs q)

  length-by : length (fonts_by clear c ws gs q) ≡ length (clearing clear) + length onward
  length-by = length-append (clearing clear) _ ∙ ap (λ (l : List ℕ). length (clearing clear) + length l) same

  -- the length, counted from 1 with the clear and from 0 without it
  pub count_by : (n : ℕ) → n ≡ bool_byte clear + length onward → n ≡ length (fonts_by clear c ws gs q)
  count_by n e = omega (arith, length-by, clearing-length clear)

  -- room for the clear, and for the plan behind it
  pub clear_room : (n : ℕ) → length (fonts_by clear c ws gs q) ≤ n → length (clearing clear) ≤ n
  clear_room n room = omega (arith, length-by)

  pub room_by : (out out₁ : List ℕ) (k : ℕ) → length (fonts_by clear c ws gs q) ≤ length out
      → (k ≡ length (clearing clear)) × (out₁ ≡ sets out 0 (clearing clear)) → k + length onward ≤ length out₁
  room_by out out₁ k room d = omega (arith, length-by, d.0, ap length d.1, length-sets out 0 (clearing clear))

  pub put-by : (out out₁ out' : List ℕ) (k at : ℕ) → length (fonts_by clear c ws gs q) ≤ length out
      → (k ≡ length (clearing clear)) × (out₁ ≡ sets out 0 (clearing clear))
      → (at ≡ k + length onward) × (out' ≡ sets out₁ k onward)
      → (at ≡ length (fonts_by clear c ws gs q)) × (out' ≡ at_start (fonts_by clear c ws gs q) out)
  put-by out out₁ out' k at room d e =
      let whole = ap (λ (l : List ℕ). sets out 0 (clearing clear ++ l)) same in
      let from : k ≡ 0 + length (clearing clear) = d.0 ∙ sym (zero-add (length (clearing clear))) in
      let parts = sets-append out 0 (clearing clear) onward in (
        omega (arith, d.0, e.0, length-by),
        e.1 ∙ rw (d.1, from) (sym parts ∙ sym whole) ∙ put_front out (fonts_by clear c ws gs q) room,
      )
