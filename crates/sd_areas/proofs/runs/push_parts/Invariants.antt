use Rattle.std.proofs.Common.{take}
use Rattle.sd_areas.specs.Runs.{HasParts}
use Rattle.sd_areas.proofs.runs.push_parts.Given as goal

abbrev pub invariant-loop-area : goal.invariant-loop-area
invariant-loop-area l = HasParts l.initial.areas.items l.areas.items (take l.area-index l.source) l.from l.to
