use borrow.Author.Tests.{eq-eqb, ne_eqb}
use borrow.Author.Rules.{rules}
use Rattle.vetting.proofs.Settling.{look-first, look-on, look-found, look-end}
use Rattle.vetting.proofs.judging.settle.Goals as goal
use Rattle.vetting.proofs.judging.settle.Goals.{then-codes-j-via-then-codes-j, then-codes-j-via-else-codes-j+then-fonts-j}

pub loop-j-init : goal.loop-j-init
loop-j-init c = look-first _

pub returns-then-codes-j : goal.returns-then-codes-j
returns-then-codes-j c =
    let v = c.loop-j.invariant in
    elim c.then-codes-j.branch [
      | then-codes-j-via-then-codes-j w ↦ look-found v _ _ (search rules) (rw (ne_eqb _ _ w.if-codes-j.true))
      | then-codes-j-via-else-codes-j+then-fonts-j w ↦
          look-found v _ _ (search rules) (rw (eq-eqb _ _ w.if-codes-j.false, ne_eqb _ _ w.if-fonts-j.true))
    ]

pub loop-j-preserved : goal.loop-j-preserved
loop-j-preserved c =
    look-on c.loop-j.invariant (search rules) (rw (eq-eqb _ _ c.if-codes-j.false, eq-eqb _ _ c.if-fonts-j.false))

pub returns-then-p-asked : goal.returns-then-p-asked
returns-then-p-asked c = look-end c.loop-j.invariant _ _ (search rules) (ne_eqb _ _ c.if-p-asked.true)

pub returns : goal.returns
returns c = look-end c.loop-j.invariant _ _ (search rules) (eq-eqb _ _ c.if-p-asked.false)
