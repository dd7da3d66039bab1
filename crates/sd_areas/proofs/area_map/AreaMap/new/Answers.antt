use Rattle.std.proofs.Common.{ap}
use Rattle.sd_areas.specs.Areas.{page_map_of}
use Rattle.sd_areas.proofs.area_map.AreaMap.new.Goals as goal

pub returns : goal.returns
unfolding page_map_of
returns c = ap page_map_of c.new.ensures.items
