use mathlib.Core.Path.{sym, ◌∙◌}
use Rattle.moves.proofs.Rule.{fewest-places, fewest-length}
use Rattle.moves.proofs.Put.{put_as, no_way, way-path, way-put}
use Rattle.moves.proofs.put_way.Goals as goal

pub put_kind-requires : goal.put_kind-requires
put_kind-requires c =
    let n = c.number-n.ensures in
    let z = fewest-places _ _ (λ e. c.if-n-ne0.true (n.answer ∙ e)) in
    (z.0, z.1, fewest-length _ _ _ n z.0 z.1)

pub returns-then-n-ne0 : goal.returns-then-n-ne0
returns-then-n-ne0 c =
    let n = c.number-n.ensures.answer in
    let z = fewest-places _ _ (λ e. c.if-n-ne0.true (n ∙ e)) in
    way-put _ _ _ _ _ n (put_as _ _ _ _ c.put_kind.ensures (sym (way-path _ _ z.0 z.1)))

pub returns-else-n-ne0 : goal.returns-else-n-ne0
returns-else-n-ne0 c =
    rw c.if-n-ne0.false (no_way _ _ _ (sym c.number-n.ensures.answer ∙ c.if-n-ne0.false))
