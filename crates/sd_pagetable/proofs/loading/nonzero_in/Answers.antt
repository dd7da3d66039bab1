use Rattle.std.proofs.Common.{arith}
use Rattle.sd_pagetable.proofs.FilledLemmas.{weigh}
use Rattle.sd_pagetable.proofs.SnapshotLemmas.{few_frames, space_weight}
use Rattle.sd_pagetable.proofs.loading.nonzero_in.Goals as goal

pub overflow_add-count : goal.overflow_add-count
overflow_add-count c = grind (arith, few_frames)

pub returns : goal.returns
returns c = grind (arith, weigh, space_weight)
