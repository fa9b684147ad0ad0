use mathlib.Core.Path.{◌≡◌}
use native.Mathlib.Omega.{arith}
use lib.ListN.{length}
use Rattle.lines.specs.Lines.{each, code_text, hex_line}
use Rattle.lines.proofs.Laws.{none-adds, both-adds, each-adds}
use Rattle.lines.proofs.Text.codes.Goals as goal

pub loop-i-init : goal.loop-i-init
unfolding each
loop-i-init c = none-adds _

pub loop-i-preserved : goal.loop-i-preserved
unfolding code_text
loop-i-preserved c =
    let code = both-adds c.hex.ensures (rw c.separator.ensures at c.word.ensures) in
    each-adds _ c.loop-i.i c.loop-i.invariant code

pub returns : goal.returns
unfolding hex_line
returns c =
    let e : c.loop-i.i ≡ length c.args.codes.now = omega arith in
    rw e at c.loop-i.invariant
