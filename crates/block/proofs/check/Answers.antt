use Rattle.block.proofs.Sealing.{check-short}
use borrow.Author.Rules.{rules}
use Rattle.block.proofs.check.Goals as goal

pub returns-then-block-lt-CHECK : goal.returns-then-block-lt-CHECK
returns-then-block-lt-CHECK c = check-short c.args.block.now _ c.if-block-lt-CHECK.true c.weighed.ensures

pub check_by-requires : goal.check_by-requires
check_by-requires c = (search rules, c.is_rest_zero-zeros.ensures)

pub returns : goal.returns
returns c = c.check_by.ensures
