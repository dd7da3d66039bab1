use Rattle.sd_image.proofs.FileLaws.{file_is_image_lem}
use Rattle.sd_image.proofs.laws.file_is_image.Goals as goal

pub returns : goal.returns
returns c = file_is_image_lem
