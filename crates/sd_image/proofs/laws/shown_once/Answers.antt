use Rattle.sd_image.proofs.OneMemory.{shown_once_lem}
use Rattle.sd_image.proofs.laws.shown_once.Goals as goal

pub returns : goal.returns
returns c = shown_once_lem
