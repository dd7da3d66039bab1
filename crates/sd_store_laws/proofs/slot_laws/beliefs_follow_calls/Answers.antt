use Rattle.sd_store_laws.proofs.GateSteps.{beliefs_follow_calls_lem}
use Rattle.sd_store_laws.proofs.slot_laws.beliefs_follow_calls.Goals as goal

pub returns : goal.returns
returns c = beliefs_follow_calls_lem
