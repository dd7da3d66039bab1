use Rattle.std.proofs.Common.{◌≡◌, map, take}
use Rattle.serde_json.specs.View.{view}
use Rattle.sd_json.specs.Documents.{area_fields}
use Rattle.sd_json.proofs.memory.areas_json.Given as goal

-- the areas so far are shown
abbrev pub invariant-loop-area : goal.invariant-loop-area
invariant-loop-area l = map view l.shown.items ≡ map area_fields (take l.area-index l.areas)
