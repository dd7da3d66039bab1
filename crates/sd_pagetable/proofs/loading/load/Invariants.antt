use Rattle.sd_areas.specs.Memory.{memory_of}
use Rattle.sd_pagetable.proofs.LoadingLemmas.{IsLoading}
use Rattle.sd_pagetable.proofs.loading.load.Given as goal

abbrev pub invariant-loop-space : goal.invariant-loop-space
invariant-loop-space l = IsLoading l.initial.paging.pool (memory_of l.fn.snapshot) l.paging l.space-iterator
