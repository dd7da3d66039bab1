use Rattle.std.proofs.Common.{◌≡◌, ◌+◌, take}
use Rattle.std.specs.Prelude.{sum_by}
use Rattle.sd_areas.specs.declared.area.Area.{Area}
use Rattle.sd_image.proofs.totals.left_by_areas.Given as goal

abbrev pub invariant-loop-area : goal.invariant-loop-area
invariant-loop-area l = l.left + sum_by (λ (area : Area). area.count) (take l.area-index l.areas) ≡ l.limit
