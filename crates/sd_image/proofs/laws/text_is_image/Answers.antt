use Rattle.sd_image.proofs.FileLaws.{text_is_image_lem}
use Rattle.sd_image.proofs.laws.text_is_image.Goals as goal

pub returns : goal.returns
returns c = text_is_image_lem
