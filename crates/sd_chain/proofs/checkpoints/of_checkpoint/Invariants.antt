use Rattle.std.proofs.Common.{map}
use Rattle.std.specs.Map.Iter.{deref_pair}
use Rattle.sd_chain.specs.Catalog.{images}
use Rattle.sd_chain.specs.Checkpoints.{IsCheckpointChoice}
use Rattle.sd_chain.proofs.checkpoints.of_checkpoint.Given as goal

abbrev pub invariant-loop-place : goal.invariant-loop-place
invariant-loop-place l = IsCheckpointChoice l.number (images (map deref_pair l.yielded)) l.chosen
