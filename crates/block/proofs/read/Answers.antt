use mathlib.Core.Path.{refl}
use Rattle.block.proofs.Answers.{damaged-read, unformed, taken, number-of-none}
use Rattle.refusals.proofs.Laws.{numbered}
use Rattle.block.proofs.read.Goals as goal

pub returns-in-Some : goal.returns-in-Some
returns-in-Some c = damaged-read _ _ _ c.in-Some.ensures (numbered c.in-Some.refusal) refl

pub returns-else-is_formed : goal.returns-else-is_formed
returns-else-is_formed c =
    unformed _ _ _ c.damage.ensures (number-of-none c.damage.result c.in_default.not-Some) c.is_formed.ensures
    (c.if-is_formed.false) _ refl

pub returns-then-is_formed : goal.returns-then-is_formed
returns-then-is_formed c =
    taken _ _ _ c.damage.ensures (number-of-none c.damage.result c.in_default.not-Some) c.is_formed.ensures
    (c.if-is_formed.true) _ c.unpacked.ensures
