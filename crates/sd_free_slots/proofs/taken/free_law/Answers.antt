use Rattle.sd_free_slots.proofs.TakenLemmas.{free_slots_law}
use Rattle.sd_free_slots.proofs.taken.free_law.Goals as goal

pub returns : goal.returns
returns c = free_slots_law
