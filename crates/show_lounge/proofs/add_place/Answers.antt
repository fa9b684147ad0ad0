use Rattle.lounge.proofs.Back.{bit-flag}
use Rattle.lines.proofs.Laws.{both-adds}
use Rattle.show_lounge.specs.Report.{place_line}
use Rattle.show_lounge.proofs.add_place.Goals as goal

pub returns : goal.returns
unfolding place_line
returns c =
    let k = c.args.c.now in
    let cursor = rw c.from.ensures at c.number.ensures in
    let mode = rw c.from-2.ensures at c.number-2.ensures in
    let scroll = rw (c.from-3.ensures, bit-flag k.scrolling) at c.number-3.ensures in
    let dimming = rw (c.from-4.ensures, bit-flag k.dimming) at c.number-4.ensures in
    both-adds cursor
    (both-adds mode (both-adds scroll (both-adds dimming (both-adds c.hex.ensures c.word.ensures))))
