use Rattle.sd_store_laws.proofs.GateSteps.{one_belief_changes_lem}
use Rattle.sd_store_laws.proofs.slot_laws.one_belief_changes.Goals as goal

pub returns : goal.returns
returns c = one_belief_changes_lem
