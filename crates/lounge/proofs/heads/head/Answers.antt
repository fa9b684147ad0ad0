use Rattle.lounge.proofs.Back.{bit-flag}
use Rattle.lounge.specs.Head.{head_of}
use Rattle.lounge.proofs.heads.head.Goals as goal

pub returns : goal.returns
unfolding head_of
returns c =
    let h = c.half_of-kind.ensures in
    let k = c.args.c in
    rw (c.from-scrolling.ensures, c.from-dimming.ensures, bit-flag k.scrolling, bit-flag k.dimming, h.0, h.1, h.2)
