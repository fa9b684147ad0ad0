use mathlib.Core.Path.{◌≡◌, ap}
use mathlib.Core.Bool.{Bool, ◌&&◌}
use lib.ListN.{length}
use Rattle.condition.specs.Condition.{index_good, well_formed}
use Rattle.condition.proofs.Rows.{rows-law}
use borrow.Author.Rules.{rules}
use Rattle.condition.proofs.Condition.is_well_formed.Goals as goal

sized : (c : goal.After-agrees)
    → (length c.args.self.now.fonts ≡ 40) × (length c.args.self.now.users.bytes ≡ 96) × (length c.args.self.now.held ≡ 4)
sized c = (search rules, search rules, search rules)

pub returns : goal.returns
unfolding well_formed
returns c =
    rw (c.agrees.ensures, c.rows_good.ensures, c.scroll_good.ensures)
    (rw c.numbers_good.ensures
    (ap (λ (t : Bool). t && index_good c.args.self.now)
    (rows-law c.args.self.now (sized c).0 (sized c).1 (sized c).2)))
