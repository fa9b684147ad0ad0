use mathlib.Core.Path.{ap, ◌∙◌}
use lib.ListN.{length}
use Rattle.users.specs.declared.Users.{Users}
use Rattle.index.specs.Index.{index_of}
use Rattle.index.proofs.Entries.{as_many}
use Rattle.inplace.proofs.characters.reindex.Goals as goal

pub returns : goal.returns
returns c =
    as_many _ _ _ _ c.build.ensures
    ∙ ap (λ (u : Users). index_of (length c.build.new.entries) u.bytes u.count) c.list.ensures
