use Rattle.sd_areas.proofs.Unique.{one_list}
use Rattle.sd_areas.proofs.laws.one_list_law.Goals as goal

pub returns : goal.returns
returns c = one_list
