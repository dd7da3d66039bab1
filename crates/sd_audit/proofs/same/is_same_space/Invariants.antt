use Rattle.std.specs.Iterator.Adapters.{zip_first, zip_second}
use Rattle.sd_areas.specs.Memory.{page_of_snapshot}
use Rattle.sd_audit.proofs.SameLemmas.{AreAsRests}
use Rattle.sd_audit.proofs.same.is_same_space.Given as goal

abbrev pub invariant-loop-page : goal.invariant-loop-page
invariant-loop-page l = AreAsRests page_of_snapshot l.one.entries l.other.entries (zip_first l.page-iterator) (zip_second l.page-iterator)
