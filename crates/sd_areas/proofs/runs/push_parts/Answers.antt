use Rattle.sd_areas.proofs.Parts.{parts_none, parts_after, parts_step, next_follows}
use Rattle.sd_areas.proofs.runs.push_parts.Goals as goal

pub loop-area-init : goal.loop-area-init
loop-area-init c = parts_none _ _ _ c.requires.maximal c.requires.behind

pub push_part-requires-clause-behind : goal.push_part-requires-clause-behind
push_part-requires-clause-behind c = parts_after _ _ _ _ _ _ _ c.requires.source_maximal c.loop-area-test.true c.area-item.is c.loop-area.invariant

pub push_part-requires-clause-within : goal.push_part-requires-clause-within
push_part-requires-clause-within c = (next_follows _ _ _ c.requires.source_maximal c.loop-area-test.true c.area-item.is).within

pub loop-area-preserved : goal.loop-area-preserved
loop-area-preserved c = parts_step _ _ _ _ _ _ _ _ c.requires.source_maximal c.loop-area-test.true c.area-item.is c.loop-area.invariant c.in_ok-push_part.ensures.ok
