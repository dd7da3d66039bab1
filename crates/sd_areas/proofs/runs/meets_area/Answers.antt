use Rattle.sd_areas.proofs.Alike.{meets_none}
use Rattle.sd_areas.proofs.runs.meets_area.Goals as goal

pub returns : goal.returns
returns c = meets_none _ _ _ _ _ c.any_meets.ensures c.number-begin.ensures.value c.requires.maximal c.requires.pages
