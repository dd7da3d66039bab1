use Rattle.sd_areas.proofs.PageLaws.{protected_pages}
use Rattle.sd_areas.proofs.laws.protected_law.Goals as goal

pub returns : goal.returns
returns c = protected_pages
