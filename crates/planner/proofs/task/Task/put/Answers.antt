use Rattle.planner.proofs.Clear.{either_is}
use Rattle.planner.proofs.Putting.{put_same}
use Rattle.planner.proofs.task.Task.put.Goals as goal

pub put_by-requires : goal.put_by-requires
put_by-requires c = rw (either_is _ _ _ c.clear_wins.ensures) c.requires

pub returns : goal.returns
returns c =
    put_same _ _ _ _ _ c.put_by.ensures
    (either_is _ _ _ c.clear_wins.ensures)
