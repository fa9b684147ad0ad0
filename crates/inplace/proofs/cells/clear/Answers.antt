use mathlib.Core.Path.{◌∙◌}
use Rattle.condition.specs.Bytes.{clear_of}
use Rattle.inplace.proofs.InPlace.{font-at, scrolling-in}
use borrow.Author.Rules.{rules}
use Rattle.inplace.proofs.cells.clear.Goals as goal

pub returns : goal.returns
unfolding clear_of
returns c =
    scrolling-in c.blank.new.s 0 (search rules) ∙ rw c.blank.ensures (simp font-at)
