use Rattle.host.proofs.Once.{opened-damaged, opened-whole}
use Rattle.host.proofs.opened.Goals as goal

pub returns-in-Some : goal.returns-in-Some
returns-in-Some c = opened-damaged _ _ c.in-Some.ensures

pub returns : goal.returns
returns c = opened-whole _ _ c.in_default.ensures c.unpacked.ensures
