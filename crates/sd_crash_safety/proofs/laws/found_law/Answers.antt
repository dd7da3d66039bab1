use Rattle.sd_crash_safety.proofs.Found.{found_lem}
use Rattle.sd_crash_safety.proofs.laws.found_law.Goals as goal

pub returns : goal.returns
returns c = found_lem c.found_is_believed.ensures c.found_is_exact.ensures c.catalog_is_found.ensures c.opened_is_sound.ensures c.slots_are_found.ensures
