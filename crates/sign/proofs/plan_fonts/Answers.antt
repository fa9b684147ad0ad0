use mathlib.Core.Path.{◌≡◌, refl}
use mathlib.Core.Bool.{true, ◌&&◌}
use lib.Dec.{eqb}
use Prim.Native.Nat.{ℕ}
use borrow.Author.Tests.{eq-eqb, ne_eqb}
use Rattle.std.proofs.lemmas.Result.{err_from_is_err_and}
use Rattle.planner.specs.Answer.{fonts_refusal}
use Rattle.planner.proofs.Refusals.{unformed}
use Rattle.sign.specs.Calls.{host_fonts_refusal}
use Rattle.host.proofs.Once.{in_block}
use Rattle.refusals.proofs.Laws.{numbered}
use Rattle.sign.proofs.Hosted.{plan-short, plan-damaged, plan-done, fonts-in}
use Rattle.sign.proofs.plan_fonts.Goals as goal
use Rattle.sign.proofs.plan_fonts.Goals.{then-codes-ne-CELLS-via-then-codes-ne-CELLS}
use Rattle.sign.proofs.plan_fonts.Goals.{then-codes-ne-CELLS-via-else-codes-ne-CELLS+then-fonts-ne-CELLS}

-- there are 40 codes and 40 fonts
fits : (codes fonts : ℕ) → codes ≡ 40 → fonts ≡ 40 → (eqb codes 40 && eqb fonts 40) ≡ true
fits codes fonts c f = rw (eq-eqb codes 40 c, eq-eqb fonts 40 f)

pub returns-then-codes-ne-CELLS : goal.returns-then-codes-ne-CELLS
unfolding host_fonts_refusal
returns-then-codes-ne-CELLS c =
    elim c.then-codes-ne-CELLS.branch [
      | then-codes-ne-CELLS-via-then-codes-ne-CELLS w ↦ plan-short _ _ _ _ _ _ (rw (ne_eqb _ 40 w.if-codes-ne-CELLS.true))
      | then-codes-ne-CELLS-via-else-codes-ne-CELLS+then-fonts-ne-CELLS w ↦
          plan-short _ _ _ _ _ _ (rw (eq-eqb _ 40 w.if-codes-ne-CELLS.false, ne_eqb _ 40 w.if-fonts-ne-CELLS.true))
    ]

pub returns-in_err-c : goal.returns-in_err-c
unfolding host_fonts_refusal
returns-in_err-c c =
    let e = err_from_is_err_and c.from_residual.result c.from_residual.ensures.1 in
    rw (e.1, e.2)
    (plan-damaged _ _ _ _ _ _ (fits _ _ c.if-codes-ne-CELLS.false c.if-fonts-ne-CELLS.false) _ c.in_err-c.ensures
    (numbered _))

pub returns-in_err-length : goal.returns-in_err-length
unfolding host_fonts_refusal fonts_refusal
returns-in_err-length c =
    let e = err_from_is_err_and c.from_residual-in_err-length.result c.from_residual-in_err-length.ensures.1 in
    let fit = fits _ _ c.if-codes-ne-CELLS.false c.if-fonts-ne-CELLS.false in
    let p = fonts-in _ _ (in_block _ _ c.in_ok-c.ensures refl) _ _ _ _ _ _ c.in_err-length.ensures in
    rw (e.1, e.2)
    (plan-done _ _ _ _ _ _ fit _ c.in_ok-c.ensures _ _ _ refl (λ w. unformed _ _ _ _ _ _ fit w) p refl)

pub returns : goal.returns
unfolding host_fonts_refusal fonts_refusal
returns c =
    let whole = fits _ _ c.if-codes-ne-CELLS.false c.if-fonts-ne-CELLS.false in
    let p = fonts-in _ _ (in_block _ _ c.in_ok-c.ensures refl) _ _ _ _ _ _ c.in_ok-length.ensures in
    plan-done _ _ _ _ _ _ whole _ c.in_ok-c.ensures _ _ _ refl (λ w. unformed _ _ _ _ _ _ whole w) p (rw c.from.ensures)
