use mathlib.Core.Path.{refl}
use native.Mathlib.Omega.{arith}
use Prim.Native.Nat.{◌≤◌, ◌<◌}
use Rattle.laws.proofs.Tests.{tests}
use Rattle.row.specs.Row.{line_start}
use Rattle.lounge.specs.Pairs.{command_of}
use borrow.Author.Tests.{le-leb, lt-leb}
use Rattle.lounge.proofs.Lounge.command.Goals as goal

pub reset_line-requires : goal.reset_line-requires
unfolding line_start
reset_line-requires c = refl

pub reset_line-requires-in-65 : goal.reset_line-requires-in-65
unfolding line_start
reset_line-requires-in-65 c = refl

pub returns-in-64 : goal.returns-in-64
unfolding command_of
returns-in-64 c = rw (c.reset_line.ensures, c.in-64.is)

pub returns-in-65 : goal.returns-in-65
unfolding command_of
returns-in-65 c = rw (c.reset_line-in-65.ensures, c.in-65.is)

pub returns-in-0-to-39 : goal.returns-in-0-to-39
unfolding command_of
returns-in-0-to-39 c = let l : c.args.b ≤ 39 = omega arith in rw (c.go_to.ensures, le-leb _ _ l)

pub returns-else-b-lt40 : goal.returns-else-b-lt40
unfolding command_of
returns-else-b-lt40 c = let l : 39 < c.args.b = omega arith in rw (lt-leb _ _ l) (search tests)
