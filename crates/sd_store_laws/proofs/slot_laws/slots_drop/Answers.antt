use Rattle.sd_store_laws.proofs.SlotSteps.{slots_drop_lem}
use Rattle.sd_store_laws.proofs.slot_laws.slots_drop.Goals as goal

pub returns : goal.returns
returns c = slots_drop_lem
