use Rattle.sd_areas.specs.Memory.{memory_of}
use Rattle.sd_areas.proofs.Memory.{empty_memory}
use Rattle.sd_areas.proofs.snapshot.Snapshot.new.Goals as goal

pub returns-clause-memory : goal.returns-clause-memory
unfolding memory_of
returns-clause-memory c = empty_memory _ c.new.ensures.empty
