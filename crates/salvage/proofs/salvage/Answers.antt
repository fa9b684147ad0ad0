use Prim.Native.Nat.{ℕ, ◌/◌}
use mathlib.Core.Path.{◌≡◌, sym, ◌∙◌}
use native.Mathlib.Omega.{arith}
use lib.ListN.{length, length-replicate}
use lib.Seq.{length-take-le}
use Rattle.refusals.proofs.Laws.{numbered}
use Rattle.salvage.specs.Salvage.{salvage_refusal}
use Rattle.salvage.proofs.Telling.{few, reports-refused, reports-accepted}
use borrow.Author.Rules.{rules}
use Rattle.salvage.proofs.salvage.Goals as goal

pub returns-in-Some : goal.returns-in-Some
returns-in-Some c =
    reports-refused _ c.requires.1 _ (c.into.ensures ∙ c.in-Some.ensures)
    (λ z. numbered c.in-Some.refusal (sym c.into.ensures ∙ z)) (rw c.requires.0 at c.refused.ensures.added)

pub slice_bounds-room-end : goal.slice_bounds-room-end
slice_bounds-room-end c =
    let z : salvage_refusal c.args.size ≡ 0 = search rules in
    few _ z

pub slice_bounds-sources-end : goal.slice_bounds-sources-end
slice_bounds-sources-end c =
    let z : salvage_refusal c.args.size ≡ 0 = search rules in
    sym (length-take-le _ _ (omega (arith, few _ z, length-replicate {A = ℕ} 10000 0)))

pub returns : goal.returns
returns c =
    let z : salvage_refusal c.args.size ≡ 0 = search rules in
    let n : length c.make.new.sources ≡ c.args.size / 512 =
    c.make.auto.sources ∙ length-take-le _ _ (omega (arith, few _ z, length-replicate {A = ℕ} 10000 0)) in
    reports-accepted _ c.requires.1 _ z (rw n at c.in_ok-make.ensures) (rw (c.requires.0, n) at c.report.ensures.added)
