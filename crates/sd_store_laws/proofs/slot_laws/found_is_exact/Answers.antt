use Rattle.sd_store_laws.proofs.GateSteps.{found_is_exact_lem}
use Rattle.sd_store_laws.proofs.slot_laws.found_is_exact.Goals as goal

pub returns : goal.returns
returns c = found_is_exact_lem
