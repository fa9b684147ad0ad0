use native.Mathlib.Omega.{arith}
use mathlib.Core.Path.{◌∙◌}
use Rattle.block.specs.Reading.{intact}
use Rattle.block.proofs.Sealing.{check-below, check-bytes, same-ends}
use Rattle.block.proofs.is_intact.Goals as goal

pub overflow_cast-sum : goal.overflow_cast-sum
overflow_cast-sum c = omega (arith, c.requires, check-below c.args.block.now)

pub returns : goal.returns
unfolding intact
returns c =
    let b = c.args.block.now in
    let check = c.to_le_bytes-check.ensures ∙ check-bytes c.args.sum (omega (arith, c.requires, check-below b)) in
    rw (c.starts_with.ensures.value, c.ends_with.ensures.value, check, c.requires) (same-ends b 0x56 0x4b 0x01 _ _ c.told-block)
