use Rattle.sd_pagetable.proofs.SnapshotLemmas.{IsFilling}
use Rattle.sd_pagetable.proofs.loading.load_space.Given as goal

abbrev pub invariant-loop-page : goal.invariant-loop-page
invariant-loop-page l = IsFilling l.initial.paging l.paging l.space l.fn.pages.entries l.page-iterator
