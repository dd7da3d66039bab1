use Rattle.std.proofs.Common.{rules}
use Rattle.sd_areas.proofs.area_map.AreaMap.map.Goals as goal

pub returns-in_err-range-clause-same : goal.returns-in_err-range-clause-same
returns-in_err-range-clause-same c = λ valid inside _. search rules
