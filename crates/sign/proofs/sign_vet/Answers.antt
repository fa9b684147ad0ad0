use Rattle.sign.proofs.Vetted.{number-most, host-vets}
use Rattle.sign.proofs.sign_vet.Goals as goal

pub vet_number-requires : goal.vet_number-requires
vet_number-requires c = number-most _ _ _ _ _ c.vet_block.ensures

pub returns : goal.returns
returns c = host-vets _ _ _ _ _ c.vet_block.ensures _ c.vet_number.ensures
