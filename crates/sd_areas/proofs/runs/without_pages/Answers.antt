use Rattle.sd_areas.proofs.Put.{run_cut_at}
use Rattle.sd_areas.proofs.runs.without_pages.Goals as goal

pub returns : goal.returns
returns c = run_cut_at _ _ _ _ _ _ _ c.new-joined.ensures.items c.number-begin.ensures.value c.requires.maximal c.requires.within c.in_ok-push_parts.ensures.ok c.in_ok-push_parts-2.ensures.ok
