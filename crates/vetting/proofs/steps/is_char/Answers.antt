use mathlib.Core.Bool.{or-true, or-false}
use Rattle.vetting.specs.Steps.{char_in}
use borrow.Author.Tests.{le-leb, lt-leb}
use Rattle.vetting.proofs.steps.is_char.Goals as goal

pub returns-then-b-ge32 : goal.returns-then-b-ge32
unfolding char_in
returns-then-b-ge32 c = rw (le-leb _ _ c.if-b-ge32.true, or-true)

pub returns-else-b-ge32 : goal.returns-else-b-ge32
unfolding char_in
returns-else-b-ge32 c = rw (lt-leb _ _ c.if-b-ge32.false, or-false)
