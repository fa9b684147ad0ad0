use Prim.Native.Nat.{ℕ, ◌<◌}
use mathlib.Core.Path.{◌≡◌, sym, ◌∙◌}
use native.Mathlib.Omega.{arith}
use borrow.Author.Rules.{rules}
use Rattle.std.specs.Prelude.{None, Some, Result, Ok, Err}
use Rattle.std.specs.Result.{OkIff, result_ok}
use Rattle.users.proofs.Laws.{none_above}
use Rattle.glass.specs.Answers.{lookup_of}
use Rattle.glass.proofs.lookup.Goals as goal

-- a number that is no byte, and one that is
too_wide : {E : Type 0} (r : Result ℕ E) (P : Type 0) (n : ℕ) → OkIff r P n → None ≡ result_ok r → P → ⊥
too_wide (Ok x) P n e q p = cc
too_wide (Err e) P n f q p = f p

same : {E : Type 0} (r : Result ℕ E) (P : Type 0) (n k : ℕ) → OkIff r P n → Some k ≡ result_ok r → k ≡ n
same (Ok x) P n k e q = let f : x ≡ n = e.1 in cc
same (Err e) P n k f q = cc

pub returns-then-not-is_well_formed : goal.returns-then-not-is_well_formed
unfolding lookup_of
returns-then-not-is_well_formed c = rw (sym c.is_well_formed.ensures ∙ c.if-not-is_well_formed.true)

pub returns-in_err-ok : goal.returns-in_err-ok
unfolding lookup_of
returns-in_err-ok c =
    let no = too_wide _ _ _ c.try_from.ensures c.in_err-ok.ensures.value in
    let wide : 255 < c.args.code = omega (arith, no) in
    rw (
      c.from_residual.ensures,
      sym c.is_well_formed.ensures ∙ c.if-not-is_well_formed.false,
      none_above c.args.c.users.bytes c.args.c.users.count c.args.code (search rules) wide,
    )

pub returns : goal.returns
unfolding lookup_of
returns c =
    rw (
      sym c.is_well_formed.ensures ∙ c.if-not-is_well_formed.false,
      ← (same _ _ _ _ c.try_from.ensures c.in_ok-ok.ensures.value),
      ← c.list.ensures.0,
      ← c.list.ensures.1,
    )
    c.find.ensures
