use Rattle.layout.specs.Layout.{condition_in}
use Rattle.layout.proofs.unpack.Goals as goal

pub returns : goal.returns
unfolding condition_in
returns c =
    rw (
      c.build.ensures,
      c.list.ensures.0,
      c.list.ensures.1,
      c.copy.ensures,
      c.copy-2.ensures,
      c.copy-3.ensures,
      c.copy-4.ensures,
      c.pending_in.ensures,
    )
