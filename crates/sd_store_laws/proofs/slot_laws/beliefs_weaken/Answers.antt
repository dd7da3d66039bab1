use Rattle.sd_store_laws.proofs.GateSteps.{beliefs_weaken_lem}
use Rattle.sd_store_laws.proofs.slot_laws.beliefs_weaken.Goals as goal

pub returns : goal.returns
returns c = beliefs_weaken_lem
