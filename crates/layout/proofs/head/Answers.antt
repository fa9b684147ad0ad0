use Rattle.layout.specs.Layout.{head_of}
use Rattle.layout.proofs.PackedBack.{cast-flag}
use Rattle.layout.proofs.head.Goals as goal

pub returns : goal.returns
unfolding head_of
returns c =
    let h = c.half_of-half.ensures in
    simp cast-flag (rw (h.0, h.1, h.2))
