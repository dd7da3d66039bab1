use Rattle.std.proofs.Common.{rules}
use Rattle.sd_areas.proofs.area_map.AreaMap.unmap.Goals as goal

pub returns-in_err-range-clause-bare : goal.returns-in_err-range-clause-bare
returns-in_err-range-clause-bare c = λ valid inside _. search rules
