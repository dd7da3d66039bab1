use Rattle.sd_areas.proofs.CountLemmas.{areas_count}
use Rattle.sd_areas.proofs.laws.count_law.Goals as goal

pub returns : goal.returns
returns c = areas_count
