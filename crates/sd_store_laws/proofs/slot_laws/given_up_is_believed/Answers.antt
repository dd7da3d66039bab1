use Rattle.sd_store_laws.proofs.GateSteps.{given_up_is_believed_lem}
use Rattle.sd_store_laws.proofs.slot_laws.given_up_is_believed.Goals as goal

pub returns : goal.returns
returns c = given_up_is_believed_lem
