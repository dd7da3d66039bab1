use Rattle.sd_store_laws.proofs.GateSteps.{found_is_believed_lem}
use Rattle.sd_store_laws.proofs.slot_laws.found_is_believed.Goals as goal

pub returns : goal.returns
returns c = found_is_believed_lem
