use Rattle.sd_areas.proofs.Entries.{areas_of_are}
use Rattle.sd_areas.proofs.laws.areas_law.Goals as goal

pub returns : goal.returns
returns c = areas_of_are
