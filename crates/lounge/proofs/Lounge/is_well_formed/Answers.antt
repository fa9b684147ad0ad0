use Rattle.lounge.specs.Condition.{well_formed}
use Rattle.lounge.proofs.Lounge.is_well_formed.Goals as goal

pub returns : goal.returns
unfolding well_formed
returns c =
    let u = c.user_list.ensures in
    rw (
      c.area_formed.ensures,
      c.held_formed.ensures,
      c.held.ensures,
      c.are_formed.ensures,
      u.0,
      u.1,
    )
    (rw (c.up_to.ensures, c.scroll_formed.ensures, c.numbers_formed.ensures))
