use Rattle.sd_chain.proofs.Growth.{open_slot_lem}
use Rattle.sd_chain.proofs.laws.open_slot.Goals as goal

pub returns : goal.returns
returns c = open_slot_lem
