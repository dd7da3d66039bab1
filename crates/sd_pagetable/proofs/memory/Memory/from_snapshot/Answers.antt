use Rattle.sd_areas.specs.Memory.{memory_of}
use Rattle.sd_pagetable.proofs.LoadingLemmas.{loaded_areas}
use Rattle.sd_pagetable.proofs.memory.Memory.from_snapshot.Goals as goal

pub invariant_of-result : goal.invariant_of-result
invariant_of-result c = loaded_areas c.in_ok-areas.areas (memory_of c.args.snapshot.now) c.load.new.paging c.in_ok-areas.ensures.ok c.in_ok-load.ensures.memory
