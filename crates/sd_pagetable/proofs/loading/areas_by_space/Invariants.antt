use Rattle.sd_pagetable.proofs.LoadingLemmas.{IsGathered}
use Rattle.sd_pagetable.proofs.loading.areas_by_space.Given as goal

abbrev pub invariant-loop-space : goal.invariant-loop-space
invariant-loop-space l = IsGathered l.snapshot.spaces.entries l.space-iterator l.areas
