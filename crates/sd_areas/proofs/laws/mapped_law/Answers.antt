use Rattle.sd_areas.proofs.PageLaws.{mapped_pages}
use Rattle.sd_areas.proofs.laws.mapped_law.Goals as goal

pub returns : goal.returns
returns c = mapped_pages
