use Rattle.std.specs.Prelude.{Some}
use Rattle.sd_areas.specs.Memory.{page_of_snapshot}
use Rattle.sd_fold.proofs.OverLemmas.{Filling}
use Rattle.sd_fold.proofs.changes.copy_all.Given as goal

abbrev pub invariant-loop-page : goal.invariant-loop-page
invariant-loop-page l = Filling (λ page. Some (page_of_snapshot page)) l.pages.entries l.page-iterator l.fn.changes.entries l.changes.entries
