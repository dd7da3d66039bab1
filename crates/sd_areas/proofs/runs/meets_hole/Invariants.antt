use Rattle.std.proofs.Common.{take}
use Rattle.sd_areas.specs.Runs.{IsMappedUpTo}
use Rattle.sd_areas.proofs.runs.meets_hole.Given as goal

abbrev pub invariant-loop-area : goal.invariant-loop-area
invariant-loop-area l = IsMappedUpTo (take l.area-index l.areas) l.range.first l.next
