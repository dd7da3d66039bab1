use Rattle.sd_image.proofs.OneImage.{named_once_lem}
use Rattle.sd_image.proofs.laws.named_once.Goals as goal

pub returns : goal.returns
returns c = named_once_lem
