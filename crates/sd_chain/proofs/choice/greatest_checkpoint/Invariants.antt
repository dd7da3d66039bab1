use Rattle.std.proofs.Common.{map}
use Rattle.std.specs.Map.Iter.{deref_pair}
use Rattle.sd_chain.specs.Catalog.{images, IsGreatest, checkpoint_number}
use Rattle.sd_chain.proofs.choice.greatest_checkpoint.Given as goal

abbrev pub invariant-loop-place : goal.invariant-loop-place
invariant-loop-place l = IsGreatest checkpoint_number l.greatest (images (map deref_pair l.yielded))
