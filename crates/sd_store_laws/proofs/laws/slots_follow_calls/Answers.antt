use Rattle.sd_store_laws.proofs.SlotSteps.{slots_follow_calls_lem}
use Rattle.sd_store_laws.proofs.laws.slots_follow_calls.Goals as goal

pub returns : goal.returns
returns c = slots_follow_calls_lem
