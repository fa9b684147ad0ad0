use native.Mathlib.Omega.{arith}
use borrow.Author.Tests.{ne_eqb}
use Rattle.refusals.proofs.Laws.{numbered}
use Rattle.sign.specs.Calls.{reel_number}
use Rattle.sign.proofs.stop_number.Goals as goal

pub returns : goal.returns
unfolding reel_number
returns c = rw (ne_eqb _ 0 (numbered c.args.stop.refusal)) (omega arith)
