use Rattle.sd_store_laws.proofs.SlotSteps.{closing_retires_lem}
use Rattle.sd_store_laws.proofs.slot_laws.closing_retires.Goals as goal

pub returns : goal.returns
returns c = closing_retires_lem
