use Rattle.sd_areas.proofs.PageLaws.{unmapped_pages}
use Rattle.sd_areas.proofs.laws.unmapped_law.Goals as goal

pub returns : goal.returns
returns c = unmapped_pages
