use Rattle.planner.specs.Fonts.{switch}
use Rattle.planner.proofs.Putting.{put_last}
use Rattle.planner.proofs.bytes.put_code.Goals as goal

pub returns : goal.returns
returns c =
    let a = c.args in
    put_last a.out.now _ a.k _ a.code (switch a.euro a.from a.to) c.put_switch-at.ensures
