use Rattle.sd_store_laws.proofs.GateSteps.{given_up_syncs_lem}
use Rattle.sd_store_laws.proofs.slot_laws.given_up_syncs.Goals as goal

pub returns : goal.returns
returns c = given_up_syncs_lem
