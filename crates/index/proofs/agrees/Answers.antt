use mathlib.Core.Path.{ap, ◌∙◌}
use Rattle.row.specs.Row.{same_bytes}
use Rattle.index.specs.Index.{index_agrees}
use Rattle.index.proofs.agrees.Goals as goal

pub returns : goal.returns
unfolding index_agrees
returns c = c.same.ensures ∙ ap (same_bytes _) c.build.ensures
