-- Start from a clear (document 02, W4): what is known of plans without it serves for the shorter of both.
use mathlib.Core.Path.{◌≡◌, refl, sym, ap, ◌∙◌, subst}
use mathlib.Core.Bool.{Bool, true, false, cond, not, ◌&&◌, or-true}
use mathlib.Core.List.{List, [], ◌∷◌}
use Prim.Native.Nat.{ℕ, ◌≤◌, min}
use native.Mathlib.Omega.{arith}
use lib.Dec.{ltb}
use lib.ListN.{length, length-replicate}
use borrow.Author.Tests.{eqb-true, ltb-true, ltb-false, not-true}
use Rattle.laws.proofs.Tests.{by_cases, both}
use Rattle.users.specs.Users.{is_user}
use Rattle.condition.specs.declared.Condition.{Condition}
use Rattle.condition.specs.Condition.{idle}
use Rattle.condition.specs.Set.{with_scrolling}
use Rattle.condition.specs.Bytes.{is_char, clear_of, control_of, step_at, step_of, run_of}
use Rattle.condition.specs.Steps.{reading_order, clear_byte, either_start}
use Rattle.condition.proofs.Characters.{no-user}
use Rattle.moves.proofs.Interpreter.{Ready}
use Rattle.planner.specs.Plan.{Pictured}
use Rattle.planner.specs.Fonts.{pictured_in}
use Rattle.planner.specs.Clear.{plan_by, may_clear, clear_wins, either_by}
use Rattle.planner.proofs.Serving.{Plannable, Switchable, Serves}

-- The shorter of two plans --------------------------------------------------------------------------------------------------------

module _ (from : Condition → List ℕ) (c : Condition) where
  either-yes : clear_wins from c ≡ true → either_by from c ≡ plan_by from true c
  unfolding either_by
  either-yes e = rw e

  either-no : clear_wins from c ≡ false → either_by from c ≡ from c
  unfolding either_by
  either-no e = rw e

  -- it is no longer than the plan without the clear
  pub either-least : length (either_by from c) ≤ length (from c)
  unfolding clear_wins
  either-least =
      by_cases (clear_wins from c)
      (λ e. let l = ltb-true (length (plan_by from true c)) (length (from c)) (both (may_clear c) _ e).1 in
      rw (either-yes e) (omega (arith, l)))
      (λ e. rw (either-no e) (omega arith))

  -- nor, where no user character sits on 0Eh, than the one with it
  either-cleared : is_user c.users 0x0e ≡ false → length (either_by from c) ≤ length (plan_by from true c)
  unfolding clear_wins
  either-cleared u =
      by_cases (clear_wins from c) (λ e. rw (either-yes e) (omega arith))
      (λ e. rw (either-no e) (ltb-false (length (plan_by from true c)) (length (from c)) (rw u at e)))

  -- its length, by those of the two
  either-length : length (either_by from c) ≡ cond (clear_wins from c) (length (plan_by from true c))
      (length (plan_by from false c))
  either-length = by_cases (clear_wins from c) (λ e. rw (either-yes e, e)) (λ e. rw (either-no e, e))

  -- where they are counted: n without the clear, k with it
  module _ (n k : ℕ) (en : n ≡ length (plan_by from false c)) where
    pub counts-plain : is_user c.users 0x0e ≡ true → n ≡ length (either_by from c)
    unfolding clear_wins
    counts-plain u = en ∙ sym (either-length ∙ rw u)

    -- the lesser of both
    pub counts-lesser : k ≡ length (plan_by from true c) → is_user c.users 0x0e ≡ false → min n k ≡ length (either_by from c)
    unfolding clear_wins
    counts-lesser ek u =
        by_cases (ltb k n)
        (λ e. omega (arith, ltb-true k n e, ek ∙ sym (either-length ∙ rw (u, ← en, ← ek, e))))
        (λ e. omega (arith, ltb-false k n e, en ∙ sym (either-length ∙ rw (u, ← en, ← ek, e))))

  -- the plan that is put, where `clear` is whether the clear wins
  pub either_is : (clear : Bool) → clear ≡ clear_wins from c → plan_by from clear c ≡ either_by from c
  unfolding either_by
  either_is clear e = rw e

-- The clear -----------------------------------------------------------------------------------------------------------------------

module _ (c : Condition) (r : Ready c) where
  -- 0Eh where no user character sits there
  pub clears : is_user c.users 0x0e ≡ false → step_of c 0x0e ≡ clear_of c
  unfolding step_at is_char control_of
  clears u = rw (r.whole, u)

  pub clear-byte : is_user c.users 0x0e ≡ false → clear_byte c 0x0e ≡ true
  unfolding clear_byte is_char
  clear-byte u = rw (r.whole, u)

  pub cleared-ready : Ready (clear_of c)
  unfolding clear_of
  cleared-ready = record { one = r.one; still = refl; inside = r.inside; whole = r.whole }

  -- the picture is the same from the cleared condition
  cleared-picture : (wanted gs : List ℕ) (asked f : ℕ)
      → pictured_in (clear_of c) wanted gs asked f ≡ pictured_in c wanted gs asked f
  unfolding clear_of
  cleared-picture wanted gs asked f = λ i. with_scrolling (pictured_in c wanted gs asked f) (sym r.still i)

-- what can be planned from can be planned from when it is cleared
pub cleared-plannable : (c : Condition) (wanted : List ℕ) (asked : ℕ) → Plannable c wanted asked
    → Plannable (clear_of c) wanted asked
unfolding clear_of is_char
cleared-plannable c wanted asked r =
    record {
      ready = cleared-ready c r.ready;
      codes-40 = length-replicate {A = ℕ} 40 0x20;
      fonts-40 = length-replicate 40 c.font;
      wanted-40 = r.wanted-40;
      asked-40 = r.asked-40;
      escape-free = r.escape-free;
      moves-free = r.moves-free;
      shown = r.shown;
    }

pub cleared-switchable : (c : Condition) (fonts : List ℕ) → Switchable c fonts → Switchable (clear_of c) fonts
unfolding clear_of is_char
cleared-switchable c fonts t =
    record {
      wanted-fonts-40 = t.wanted-fonts-40;
      wanted-fonts-1 = t.wanted-fonts-1;
      selected-1 = t.selected-1;
      free18 = t.free18;
      free19 = t.free19;
      free1a = t.free1a;
    }

-- Both kinds of start -------------------------------------------------------------------------------------------------------------

-- a string without a clear is one of them
plain-start : (s : Bool) (c : Condition) (bs : List ℕ) → reading_order s c bs ≡ true → either_start s c bs ≡ true
unfolding either_start
plain-start s c [] e = e
plain-start s c (b ∷ bs) e = rw e

module _ (switching : Bool) (Ok : ℕ → Type 0) (c : Condition) (r : Ready c) (wanted gs : List ℕ) (asked : ℕ)
    (from : Condition → List ℕ) (plain : Serves (reading_order switching) Ok c wanted gs asked (from c))
    (cleared : Serves (reading_order switching) Ok (clear_of c) wanted gs asked (from (clear_of c))) where
  -- and so is 0Eh with a string from the cleared condition
  cleared-start : is_user c.users 0x0e ≡ false → either_start switching c (plan_by from true c) ≡ true
  unfolding either_start
  cleared-start u = rw (clear-byte c r u, clears c r u, cleared.ordered, or-true)

  cleared-gives : is_user c.users 0x0e ≡ false → run_of c (plan_by from true c) ≡ pictured_in c wanted gs asked cleared.selected
  unfolding run_of
  cleared-gives u =
      ap (λ (d : Condition). run_of d (from (clear_of c))) (clears c r u) ∙ cleared.gives
      ∙ cleared-picture c r wanted gs asked cleared.selected

  -- no string of either kind is shorter
  fewest : (bs : List ℕ) → either_start switching c bs ≡ true → Pictured (run_of c bs) wanted gs asked
      → length (either_by from c) ≤ length bs
  unfolding either_start clear_byte run_of
  fewest [] s p = omega (arith, either-least from c, plain.fewest [] s p)
  fewest (b ∷ bs) s p =
      by_cases (reading_order switching c (b ∷ bs)) (λ e. omega (arith, either-least from c, plain.fewest (b ∷ bs) e p))
      (λ e.
      let t = rw e at s in
      let k = (both (clear_byte c b) _ t).0 in
      let z : b ≡ 0x0e = eqb-true b 0x0e (both (idle c.pending && not (is_char c b)) _ k).1 in
      let u : is_user c.users 0x0e ≡ false =
      ap (is_user c.users) (sym z)
      ∙ no-user c b (not-true _ (both (idle c.pending) _ (both (idle c.pending && not (is_char c b)) _ k).0).1) in
      let q : step_of c b ≡ clear_of c = ap (step_of c) z ∙ clears c r u in
      let m = cleared.fewest bs (subst (λ (d : Condition). reading_order switching d bs ≡ true) q (both (clear_byte c b) _ t).1)
      (subst (λ (d : Condition). Pictured (run_of d bs) wanted gs asked) q p) in
      omega (arith, either-cleared from c u, m))

  pub either-serves : Serves (either_start switching) Ok c wanted gs asked (either_by from c)
  unfolding clear_wins
  either-serves =
      by_cases (clear_wins from c)
      (λ e. let u = not-true _ (both (may_clear c) _ e).0 in
      record {
        selected = cleared.selected;
        ok = cleared.ok;
        gives = rw (either-yes from c e) (cleared-gives u);
        ordered = rw (either-yes from c e) (cleared-start u);
        fewest = fewest;
      })
      (λ e. record {
        selected = plain.selected;
        ok = plain.ok;
        gives = rw (either-no from c e) plain.gives;
        ordered = rw (either-no from c e) (plain-start switching c _ plain.ordered);
        fewest = fewest;
      })
