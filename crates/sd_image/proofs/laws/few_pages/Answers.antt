use Rattle.sd_image.proofs.PagePlaces.{few_of_kind}
use Rattle.sd_image.proofs.laws.few_pages.Goals as goal

pub returns : goal.returns
returns c = λ h spaces kind table. few_of_kind kind h spaces table.each
