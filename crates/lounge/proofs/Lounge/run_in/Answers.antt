use mathlib.Core.Path.{sym, ◌∙◌}
use native.Mathlib.Omega.{arith}
use borrow.Author.Rules.{rules}
use Rattle.lounge.proofs.Turns.{run-pair, run-few}
use Rattle.lounge.proofs.Kept.{Sized, fit, step_kept}
use Rattle.lounge.proofs.Lounge.run_in.Goals as goal

pub loop-pair-init : goal.loop-pair-init
loop-pair-init c =
    let k = c.args.self.now in
    let s : Sized k =
    record { codes-40 = search rules; marks-40 = search rules; users-48 = search rules; held-4 = search rules } in
    (search rules, tt, search rules, fit k s c.requires, search rules)

pub step-requires : goal.step-requires
step-requires c = c.loop-pair.invariant.3.cursor-40

pub loop-pair-preserved : goal.loop-pair-preserved
loop-pair-preserved c =
    let k = c.loop-pair.self in
    let i = c.loop-pair.invariant in
    let s = c.in-Some.ensures.steps in (
      rw s.0 i.0,
      tt,
      s.0 ∙ i.2,
      rw c.step.ensures (step_kept k _ _ i.3),
      rw c.step.ensures (sym (run-pair k c.in-Some.pair.now _ _ s.1.0 (s.1.1 ∙ i.2)) ∙ i.4),
    )

pub returns : goal.returns
returns c =
    let i = c.loop-pair.invariant in
    let s = c.in-None.ensures.steps in
    sym (run-few c.loop-pair.self _ (omega (arith, s.1.0, i.2))) ∙ i.4
