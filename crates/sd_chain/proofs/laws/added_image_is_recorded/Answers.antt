use Rattle.sd_chain.proofs.Agreement.{added_image_is_recorded}
use Rattle.sd_chain.proofs.laws.added_image_is_recorded.Goals as goal

pub returns : goal.returns
returns c = added_image_is_recorded
