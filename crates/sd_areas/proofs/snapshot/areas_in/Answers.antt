use Rattle.sd_areas.proofs.PageRuns.{built_none, built_next, built_maximal, built_after, built_all}
use Rattle.sd_areas.proofs.snapshot.areas_in.Goals as goal

pub loop-page-init : goal.loop-page-init
loop-page-init c = built_none _ _ _ c.into_iter-page-iterator.ensures.into_iter_gives.0 c.new-areas.ensures.items c.into_iter-page-iterator.ensures.into_iter_gives.5

pub push_page-requires-clause-maximal : goal.push_page-requires-clause-maximal
push_page-requires-clause-maximal c = built_maximal _ _ _ c.loop-page.invariant

pub push_page-requires-clause-behind : goal.push_page-requires-clause-behind
push_page-requires-clause-behind c = built_after _ _ _ _ _ _ c.loop-page.invariant c.in-Some.ensures.steps

pub loop-page-preserved : goal.loop-page-preserved
loop-page-preserved c = built_next _ _ _ _ _ _ _ c.loop-page.invariant c.in-Some.ensures.steps c.in_ok-push_page.ensures.maximal c.in_ok-push_page.ensures.ends c.in_ok-push_page.ensures.same

pub returns-clause-areas : goal.returns-clause-areas
returns-clause-areas c = built_all _ _ _ c.loop-page.invariant c.in-None.ensures.steps.0
