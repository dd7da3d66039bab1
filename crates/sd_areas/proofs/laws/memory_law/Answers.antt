use Rattle.sd_areas.proofs.Memory.{memory_shows}
use Rattle.sd_areas.proofs.laws.memory_law.Goals as goal

pub returns : goal.returns
returns c = memory_shows
