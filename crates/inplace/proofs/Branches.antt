-- Each branch of a command, from what its tests tell.
use Prim.Native.Nat.{ℕ, ◌+◌, ◌%◌, ◌<◌}
use mathlib.Core.Path.{◌≡◌, sym, ◌∙◌}
use mathlib.Core.List.{List}
use mathlib.Core.Bool.{Bool, true, false, cond}
use native.Mathlib.Omega.{arith}
use lib.Dec.{eqb, ltb}
use lib.ListN.{get_or}
use borrow.Author.Tests.{eq-eqb, ne_eqb}
use Rattle.condition.specs.declared.Condition.{Condition}
use Rattle.condition.specs.declared.Pending.{Pending}
use Rattle.condition.specs.declared.Pending.TheVariants.{Nothing, Escape, Position, Luminance, Speed, UserCode, UserData}
use Rattle.condition.specs.Set.{with_cursor, with_cell}
use Rattle.condition.specs.Bytes.{scroll_of, right_of, push_of, write_of, is_char, control_of, step_at, step_of}
use Rattle.condition.specs.declared.Figures.{Figures}
use Rattle.condition.specs.Busy.{write_busy, control_busy, quick_at, quick_figure, figures_by}
use Rattle.layout.specs.Layout.{condition_in, pending_of}
use Rattle.inplace.specs.InPlace.{Stepped, alters_users}
use Rattle.inplace.proofs.Columns.{inner-column, edge-column}
use Rattle.inplace.proofs.InPlace.{cursor-at, mode-at, flickerless-at, pending-at}

-- 09h, with the column's test r
module _ (s : List ℕ) (r : Bool) (at : r ≡ ltb (get_or s 3 0 % 20) 19) where
  pub right-next : r ≡ false → (get_or s 4 0 ≡ 3 → ⊥) → get_or s 3 0 ≡ 19
      → with_cursor (condition_in s) 20 ≡ right_of (condition_in s)
  unfolding right_of
  right-next e m x = rw (cursor-at s, ← at, e, mode-at s, ne_eqb _ _ m, eq-eqb _ _ x)

  pub right-scroll : r ≡ false → (get_or s 4 0 ≡ 3 → ⊥) → (get_or s 3 0 ≡ 19 → ⊥) → (get_or s 4 0 ≡ 1 → ⊥)
      → with_cursor (scroll_of (condition_in s)) 20 ≡ right_of (condition_in s)
  unfolding right_of
  right-scroll e m x k = rw (cursor-at s, ← at, e, mode-at s, ne_eqb _ _ m, ne_eqb _ _ x, ne_eqb _ _ k)

  -- a write in mode 3
  module _ (b : ℕ) (m : get_or s 4 0 ≡ 3) where
    pub write-inner : r ≡ true
        → with_cursor (with_cell (condition_in s) (get_or s 3 0) b) (get_or s 3 0 + 1) ≡ write_of (condition_in s) b
    unfolding write_of right_of
    write-inner e =
        rw (cursor-at s, inner-column (get_or s 3 0) (sym at ∙ e), mode-at s, eq-eqb _ _ m, ← at, e)

    pub write-edge : r ≡ false → push_of (condition_in s) b ≡ write_of (condition_in s) b
    unfolding write_of
    write-edge e = rw (cursor-at s, edge-column (get_or s 3 0) (sym at ∙ e), mode-at s, eq-eqb _ _ m)

-- a write in mode 1 or 2
pub write-on : (s : List ℕ) (b : ℕ) → (get_or s 4 0 ≡ 3 → ⊥)
    → right_of (with_cell (condition_in s) (get_or s 3 0) b) ≡ write_of (condition_in s) b
unfolding write_of
write-on s b m = rw (cursor-at s, mode-at s, ne_eqb _ _ m)

-- something is half received where the kind is not 0
pub half-received : (k code n : ℕ) → 0 < k → pending_of k code n ≡ Nothing → ⊥
half-received k code n h e = go (eqb k 1) (eqb k 2) (eqb k 3) (eqb k 4) (eqb k 5) (rw (ne_eqb k 0 (λ z. omega arith)) at e)
  where
    go : (t1 t2 t3 t4 t5 : Bool)
        → cond t1 Escape (cond t2 Position (cond t3 Luminance (cond t4 Speed (cond t5 UserCode (UserData code n))))) ≡ Nothing → ⊥
    go true t2 t3 t4 t5 e = cc
    go false true t3 t4 t5 e = cc
    go false false true t4 t5 e = cc
    go false false false true t5 e = cc
    go false false false false true e = cc
    go false false false false false e = cc

-- a byte that continues what is half received
module _ (s : List ℕ) (b : ℕ) (p : Pending) (e : p ≡ pending_of (get_or s 13 0) (get_or s 14 0) (get_or s 15 0)) where
  pub half-step : step_at p (condition_in s) b ≡ step_of (condition_in s) b
  half-step = rw (pending-at s, e)

  pub half-quick : quick_at p (condition_in s) b ≡ quick_figure (condition_in s) b
  half-quick = rw (pending-at s, e)

  pub half-kept : alters_users p b ≡ alters_users (condition_in s).pending b
  half-kept = rw (pending-at s, e)

-- A byte carried out, by its quick figure q and by the flag in byte 12, as it stood before
module _ (s : List ℕ) (b : ℕ) (k : Condition) (q : ℕ) (r : Figures) (e : r ≡ figures_by q (eqb (get_or s 12 0) 1)) where
  pub quick-step : k ≡ step_of (condition_in s) b → q ≡ quick_figure (condition_in s) b → Stepped (condition_in s) b k r
  quick-step p t = record { leaves = p; takes = e ∙ rw (t, flickerless-at s) }

  -- where nothing is half received
  module _ (z : get_or s 13 0 ≡ 0) where
    nothing : (condition_in s).pending ≡ Nothing
    nothing = pending-at s ∙ rw z

    pub char-step : is_char (condition_in s) b ≡ true → k ≡ write_of (condition_in s) b → q ≡ write_busy (condition_in s)
        → Stepped (condition_in s) b k r
    unfolding step_at quick_at is_char
    char-step i p t = quick-step (p ∙ rw (nothing, i)) (t ∙ rw (nothing, i))

    pub control-step : is_char (condition_in s) b ≡ false → k ≡ control_of (condition_in s) b → q ≡ control_busy (condition_in s) b
        → Stepped (condition_in s) b k r
    unfolding step_at quick_at is_char
    control-step i p t = quick-step (p ∙ rw (nothing, i)) (t ∙ rw (nothing, i))
