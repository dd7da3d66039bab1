use Rattle.sd_chain.proofs.Agreement.{removed_slot_is_unrecorded}
use Rattle.sd_chain.proofs.laws.removed_slot_is_unrecorded.Goals as goal

pub returns : goal.returns
returns c = removed_slot_is_unrecorded
