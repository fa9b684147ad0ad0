use Rattle.laws.proofs.Lists.{map-turn, map-done}
use Rattle.lounge.specs.Marks.{unmarked, cancelled}
use Rattle.lounge.proofs.marking.cancel.Goals as goal

pub loop-m-preserved : goal.loop-m-preserved
loop-m-preserved c = let l =
    c.loop-m in map-turn (unmarked c.args.k) c.args.marks.now l.m-items l.m-index l.invariant c.loop-m-test.true

pub returns : goal.returns
unfolding cancelled
returns c = let l = c.loop-m in map-done (unmarked c.args.k) c.args.marks.now l.m-items l.m-index l.invariant c.loop-m-test.false
