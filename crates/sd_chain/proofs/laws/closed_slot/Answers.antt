use Rattle.sd_chain.proofs.Growth.{closed_slot_lem}
use Rattle.sd_chain.proofs.laws.closed_slot.Goals as goal

pub returns : goal.returns
returns c = closed_slot_lem
