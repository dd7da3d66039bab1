use Rattle.sd_store_laws.proofs.Found.{slots_are_found_lem}
use Rattle.sd_store_laws.proofs.laws.slots_are_found.Goals as goal

pub returns : goal.returns
returns c = slots_are_found_lem
