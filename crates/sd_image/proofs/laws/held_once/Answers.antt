use Rattle.sd_image.proofs.OneMemory.{held_once_lem}
use Rattle.sd_image.proofs.laws.held_once.Goals as goal

pub returns : goal.returns
returns c = held_once_lem
