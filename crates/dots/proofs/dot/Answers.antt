use mathlib.Core.Logic.{inl, inr}
use native.Mathlib.Omega.{arith}
use Rattle.dots.proofs.Laws.{no-dot, dot-law}
use Rattle.dots.proofs.dot.Goals as goal

pub returns-then-k-lt1 : goal.returns-then-k-lt1
returns-then-k-lt1 c = no-dot _ _ (inl (omega (arith, c.if-k-lt1.true)))

pub returns-then-k-gt35 : goal.returns-then-k-gt35
returns-then-k-gt35 c = no-dot _ _ (inr (omega (arith, c.if-k-gt35.true)))

pub returns : goal.returns
returns c = rw c.byte-b.ensures (dot-law _ _ c.if-k-lt1.false c.if-k-gt35.false)
