use Rattle.sd_areas.proofs.PageRuns.{IsBuilt}
use Rattle.sd_areas.proofs.snapshot.areas_in.Given as goal

abbrev pub invariant-loop-page : goal.invariant-loop-page
invariant-loop-page l = IsBuilt l.pages.entries l.page-iterator l.areas.items
