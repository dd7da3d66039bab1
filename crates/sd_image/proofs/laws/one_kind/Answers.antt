use Rattle.sd_image.proofs.PagePlaces.{kind_once}
use Rattle.sd_image.proofs.laws.one_kind.Goals as goal

pub returns : goal.returns
returns c = λ h spaces kind other page table. kind_once h 0 spaces kind other page table.each
