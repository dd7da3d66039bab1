use Rattle.sd_image.proofs.OneImage.{tip_once_lem}
use Rattle.sd_image.proofs.laws.tip_once.Goals as goal

pub returns : goal.returns
returns c = tip_once_lem
