use mathlib.Core.Path.{◌≡◌}
use native.Mathlib.Omega.{arith}
use lib.ListN.{length}
use borrow.Author.Tests.{eq-eqb}
use Rattle.std.specs.Io.KnownBytes.{Consumes, Appends}
use Rattle.salvage.proofs.Turns.{taken-turns, copying-starts, copying-turns, copying-ends}
use Rattle.salvage.proofs.AllGood.{taken-good}
use borrow.Author.Rules.{rules}
use Rattle.salvage.proofs.second.copy.Goals as goal

pub loop-i-init : goal.loop-i-init
loop-i-init g c =
    let start = c.power_up-stand_in.ensures in
    rw start.1 (copying-starts _ _ _ _ start.0)

pub write_block-requires : goal.write_block-requires
write_block-requires g c =
    let l = c.loop-i in
    record {
      good = taken-good (taken-turns _ l.invariant.taken (search rules) (search rules) c.judge.ensures);
      same = λ z. rw (eq-eqb _ _ z) at c.judge.ensures.left;
    }

pub loop-i-preserved : goal.loop-i-preserved
loop-i-preserved g c =
    let l = c.loop-i in
    let took : Consumes (g.R.Read.remaining l.input) (g.R.Read.remaining c.read_block.new.file) c.read_block.new.block =
    search rules in
    let gave : Appends (g.W.Write.contents l.output) (g.W.Write.contents c.write_block.new.file) c.judge.new.self.block =
    search rules in
    copying-turns _ l.invariant (search rules) (search rules) c.judge.ensures took gave

pub returns-clause-copied : goal.returns-clause-copied
returns-clause-copied g c =
    let l = c.loop-i in
    let e : l.i ≡ length l.sources = omega arith in
    rw e at (copying-ends l.invariant)
