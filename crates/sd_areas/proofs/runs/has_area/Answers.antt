use Rattle.sd_areas.proofs.Alike.{covers_all}
use Rattle.sd_areas.proofs.runs.has_area.Goals as goal

pub returns : goal.returns
returns c = covers_all _ _ _ _ _ _ c.any_covers.ensures c.number-begin.ensures.value c.requires.maximal c.requires.pages
