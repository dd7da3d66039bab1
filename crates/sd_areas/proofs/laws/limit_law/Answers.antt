use Rattle.sd_areas.proofs.PageLaws.{within_crowded}
use Rattle.sd_areas.proofs.laws.limit_law.Goals as goal

pub returns : goal.returns
returns c = within_crowded
