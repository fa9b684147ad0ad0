-- Values for each place and each other, which are computed whole: row `from`, column `to`.
use mathlib.Core.Path.{◌≡◌, refl, sym, ap, ◌∙◌}
use mathlib.Core.Bool.{cond}
use mathlib.Core.List.{List, [], ◌∷◌}
use Prim.Native.Nat.{ℕ, zero, suc, ◌+◌, ◌<◌, ◌≤◌}
use native.Mathlib.Omega.{arith}
use native.Mathlib.Nat.{add-zero, zero-add, add-suc, suc-add}
use lib.Dec.{ltb}
use lib.ListN.{get_or}
use borrow.Author.Tests.{lt-ltb, ltb-true, ltb-false}
use Rattle.laws.proofs.Tests.{by_cases}
use Rattle.moves.specs.Moves.{places}

-- f i, f (i + 1), .., n of them
unfoldable pub listed : {A : Type 0} → (ℕ → A) → ℕ → ℕ → List A
listed f zero i = []
listed f (suc n) i = f i ∷ listed f n (suc i)

unfoldable pub grid : {A : Type 0} → (ℕ → ℕ → A) → List (List A)
grid f = listed (λ a. listed (f a) 40 0) 40 0

-- an element of such a list, and what stands behind its end
listed_at : {A : Type 0} (f : ℕ → A) (d : A) (n i k : ℕ) → k < n → get_or (listed f n i) k d ≡ f (i + k)
unfolding listed
listed_at f d zero i k h = let z : ⊥ = omega arith in absurd z
listed_at f d (suc n) i zero h = ap f (sym (add-zero i))
listed_at f d (suc n) i (suc k) h = listed_at f d n (suc i) k (omega arith) ∙ ap f (suc-add i k ∙ sym (add-suc i k))

listed-past : {A : Type 0} (f : ℕ → A) (d : A) (n i k : ℕ) → n ≤ k → get_or (listed f n i) k d ≡ d
unfolding listed
listed-past f d zero i k h = refl
listed-past f d (suc n) i zero h = let z : ⊥ = omega arith in absurd z
listed-past f d (suc n) i (suc k) h = listed-past f d n (suc i) k (omega arith)

-- what stands there for two numbers: d where one of them is no place
pub grid-is : {A : Type 0} (f : ℕ → ℕ → A) (d : A) (a b : ℕ) → get_or (get_or (grid f) a []) b d ≡ cond (places a b) (f a b) d
unfolding grid
grid-is {A} f d a b =
    by_cases (ltb a 40)
    (λ e.
    let row = ap (λ (r : List A). get_or r b d) (listed_at (λ x. listed (f x) 40 0) [] 40 0 a (ltb-true a 40 e)) in
    by_cases (ltb b 40)
    (λ h. rw (e, h) (row ∙ listed_at (f (0 + a)) d 40 0 b (ltb-true b 40 h) ∙ rw (zero-add a, zero-add b)))
    (λ h. rw (e, h) (row ∙ listed-past (f (0 + a)) d 40 0 b (ltb-false b 40 h))))
    (λ e. rw e (ap (λ (r : List A). get_or r b d) (listed-past (λ x. listed (f x) 40 0) [] 40 0 a (ltb-false a 40 e))))

-- two that are the same as grids are the same for each place and each other
pub same_at : {A : Type 0} (f g : ℕ → ℕ → A) (d : A) → grid f ≡ grid g → (a b : ℕ) → a < 40 → b < 40 → f a b ≡ g a b
same_at {A} f g d e a b ha hb =
    let s = sym (grid-is f d a b) ∙ ap (λ (rows : List (List A)). get_or (get_or rows a []) b d) e ∙ grid-is g d a b in
    rw (lt-ltb a 40 ha, lt-ltb b 40 hb) at s
