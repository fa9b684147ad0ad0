use mathlib.Core.Path.{sym}
use native.Mathlib.Omega.{arith}
use lib.Seq.{length-take-le}
use borrow.Author.Tests.{eq-eqb, ne_eqb}
use Rattle.vet.specs.Line.{files_verdict}
use Rattle.vet.proofs.judge.Goals as goal

pub returns-then-picture-ne-PICTURE : goal.returns-then-picture-ne-PICTURE
unfolding files_verdict
returns-then-picture-ne-PICTURE c = rw (ne_eqb _ _ c.if-picture-ne-PICTURE.true)

pub slice_bounds-vet_block-end : goal.slice_bounds-vet_block-end
slice_bounds-vet_block-end c =
    let picture = c.args.picture.now in
    sym (length-take-le 40 picture (omega (arith, c.if-picture-ne-PICTURE.false)))

pub returns : goal.returns
unfolding files_verdict
returns c = rw (eq-eqb _ 41 c.if-picture-ne-PICTURE.false) c.vet_block.ensures.answer
