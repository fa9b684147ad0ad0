use Prim.Native.Nat.{ℕ, ◌<◌}
use mathlib.Core.Bool.{Bool, true, false, ◌&&◌}
use mathlib.Core.List.{List, [], ◌∷◌}
use mathlib.Core.Path.{◌≡◌, refl, sym, ◌∙◌}
use native.Mathlib.Omega.{arith}
use lib.Dec.{eqb, ltb}
use lib.ListN.{length, get_or}
use borrow.Author.Tests.{lt-ltb}
use Rattle.std.specs.Prelude.{Option, Some, None, slice_get}
use Rattle.std.proofs.Common.{Bor}
use Rattle.std.specs.Option.{option_eq, option_copied}
use Rattle.vetting.specs.Steps.{clears_in}
use Rattle.vetting.proofs.judging.clears_first.Goals as goal

-- whether the first byte is there and is b
first-is : (E : Bor ℕ → Bor ℕ → Bool) (b : Bor ℕ) → ((x : Bor ℕ) → E x b ≡ eqb x.now b.now) → (s : List ℕ) (o : Option (Bor ℕ))
    → option_copied o ≡ slice_get s 0 → option_eq E o (Some b) ≡ (ltb 0 (length s) && eqb (get_or s 0 0) b.now)
first-is E b h [] None e = refl
first-is E b h [] (Some x) e = cc
first-is E b h (y ∷ s) None e = cc
first-is E b h (y ∷ s) (Some x) e =
    let some : 0 < length (y ∷ s) = omega arith in
    let same : x.now ≡ y = cc in
    h x ∙ rw (lt-ltb 0 (length (y ∷ s)) some, same)

taken : (a b x : Bool) → (a && b) ≡ true → x ≡ (a && (b && x))
taken true true x e = refl
taken true false x e = cc
taken false b x e = cc

left_out : (a b x : Bool) → (a && b) ≡ false → false ≡ (a && (b && x))
left_out true true x e = cc
left_out true false x e = refl
left_out false b x e = refl

pub returns-then-eq : goal.returns-then-eq
unfolding clears_in
returns-then-eq c =
    let f = first-is _ _ (λ x. refl) c.args.string.now _ c.first.ensures.value in
    rw c.is_char.ensures (taken _ _ _ (sym f ∙ sym c.eq.ensures ∙ c.if-eq.true))

pub returns-else-eq : goal.returns-else-eq
unfolding clears_in
returns-else-eq c =
    let f = first-is _ _ (λ x. refl) c.args.string.now _ c.first.ensures.value in
    c.if-eq.false ∙ left_out (ltb 0 (length c.args.string.now)) _ _ (sym f ∙ sym c.eq.ensures ∙ c.if-eq.false)
