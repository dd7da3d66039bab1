use Rattle.sd_image.proofs.OneImage.{one_image_lem}
use Rattle.sd_image.proofs.laws.one_image.Goals as goal

pub returns : goal.returns
returns c = one_image_lem
