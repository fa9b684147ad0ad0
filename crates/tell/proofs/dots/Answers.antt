use mathlib.Core.Path.{◌≡◌, ap, ◌∙◌}
use native.Mathlib.Omega.{arith}
use Rattle.glass.specs.Answers.{Answer}
use Rattle.lines.specs.Lines.{each}
use Rattle.lines.proofs.Laws.{none-adds, each-adds}
use Rattle.tell.specs.Report.{dot_text}
use Rattle.tell.proofs.Values.{value-or-0}
use Rattle.tell.proofs.dots.Goals as goal

pub loop-i-init : goal.loop-i-init
unfolding each
loop-i-init c = none-adds _

pub loop-i-preserved : goal.loop-i-preserved
unfolding dot_text
loop-i-preserved c =
    let dot = c.unwrap_or-dot.ensures ∙ value-or-0 c.dot.result ∙ ap (λ (a : Answer). a.value) c.dot.ensures in
    each-adds _ c.loop-i.i c.loop-i.invariant (rw dot at c.number.ensures)

pub returns : goal.returns
returns c =
    let e : c.loop-i.i ≡ 35 = omega arith in
    rw e at c.loop-i.invariant
