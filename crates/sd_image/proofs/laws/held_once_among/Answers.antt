use Rattle.sd_image.proofs.OneMemory.{held_once_among}
use Rattle.sd_image.proofs.laws.held_once_among.Goals as goal

pub returns : goal.returns
returns c = held_once_among
