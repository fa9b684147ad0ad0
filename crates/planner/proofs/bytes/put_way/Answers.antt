use Rattle.planner.proofs.Putting.{put-way-law}
use borrow.Author.Rules.{rules}
use Rattle.planner.proofs.bytes.put_way.Goals as goal

pub returns : goal.returns
returns c = put-way-law _ _ _ _ _ _ c.put_way-n.ensures (search rules) (search rules) (search rules)
