use mathlib.Core.Path.{ap}
use Rattle.condition.specs.Set.{with_index}
use Rattle.layout.specs.Layout.{unpacked_of}
use Rattle.index_entry.proofs.condition_in.Goals as goal

pub returns : goal.returns
returns c = rw (c.unpacked-c.ensures, c.copy_from_slice.ensures.after)
