use Rattle.sd_image.proofs.PagePlaces.{place_once}
use Rattle.sd_image.proofs.laws.one_place.Goals as goal

pub returns : goal.returns
returns c = λ h spaces kind page place other table. place_once kind h spaces place other page table.each
