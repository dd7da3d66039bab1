use Rattle.sd_chain.proofs.Agreement.{removed_slot_was_recorded}
use Rattle.sd_chain.proofs.laws.removed_slot_was_recorded.Goals as goal

pub returns : goal.returns
returns c = removed_slot_was_recorded
