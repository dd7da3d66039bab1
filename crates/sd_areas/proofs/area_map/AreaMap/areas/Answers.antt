use Rattle.sd_areas.proofs.Calls.{shown_areas, shown_value}
use Rattle.sd_areas.proofs.area_map.AreaMap.areas.Goals as goal

pub returns-clause-value : goal.returns-clause-value
returns-clause-value c = shown_value _ _ _ c.as_slice.ensures.value c.self.view_is c.self.invariant.0

pub returns-clause-runs : goal.returns-clause-runs
returns-clause-runs c = shown_areas _ _ _ c.as_slice.ensures.value c.self.view_is c.self.invariant.0
