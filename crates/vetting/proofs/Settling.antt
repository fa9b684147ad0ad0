-- The wrong cells of what a string leaves, looked for from the first on.
use Prim.Native.Nat.{ℕ, ◌+◌, ◌-◌, ◌≤◌, ◌<◌}
use mathlib.Core.Path.{◌≡◌, refl, ◌∙◌}
use mathlib.Core.Bool.{Bool, true, false}
use mathlib.Core.List.{[]}
use native.Mathlib.Omega.{arith}
use Rattle.planner.specs.Plan.{flagged}
use Rattle.planner.proofs.Counting.{rest-no, rest-yes}
use Rattle.vetting.specs.Verdicts.{Cell}
use Rattle.vetting.specs.Vetting.{picture_verdict}

-- no cell below j is wrong
pub record Looked (wrong : ℕ → Bool) (j : ℕ) : Type 0 where
  pub upto : j ≤ 40
  pub same : flagged wrong 40 0 ≡ flagged wrong (40 - j) j

pub look-first : (wrong : ℕ → Bool) → Looked wrong 0
look-first wrong = record { upto = omega arith; same = refl }

none_left : (wrong : ℕ → Bool) (n j : ℕ) → n ≡ 0 → flagged wrong n j ≡ []
unfolding flagged
none_left wrong n j e = rw e

module _ {wrong : ℕ → Bool} {j : ℕ} (v : Looked wrong j) where
  pub look-on : j < 40 → wrong j ≡ false → Looked wrong (j + 1)
  look-on h e = record { upto = omega arith; same = v.same ∙ rest-no wrong j h e }

  module _ (there : Bool) (excess : ℕ) where
    pub look-found : j < 40 → wrong j ≡ true → Cell j ≡ picture_verdict (flagged wrong 40 0) there excess
    look-found h e = rw (v.same ∙ rest-yes wrong j h e)

    -- none is: it is the cursor that decides
    pub look-end : 40 ≤ j → {t : Bool} → there ≡ t → picture_verdict [] t excess ≡ picture_verdict (flagged wrong 40 0) there excess
    look-end h e = rw (v.same ∙ none_left wrong (40 - j) j (omega arith), e)
