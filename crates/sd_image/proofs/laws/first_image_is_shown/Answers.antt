use Rattle.sd_image.proofs.FirstImage.{first_image_is_shown_lem}
use Rattle.sd_image.proofs.laws.first_image_is_shown.Goals as goal

pub returns : goal.returns
returns c = first_image_is_shown_lem
