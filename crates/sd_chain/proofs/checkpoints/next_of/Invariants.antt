use Rattle.std.proofs.Common.{map}
use Rattle.std.specs.Map.Iter.{deref_pair}
use Rattle.sd_chain.specs.Catalog.{images}
use Rattle.sd_chain.specs.Checkpoints.{IsNextChoice}
use Rattle.sd_chain.proofs.checkpoints.next_of.Given as goal

abbrev pub invariant-loop-place : goal.invariant-loop-place
invariant-loop-place l = IsNextChoice l.bound (images (map deref_pair l.yielded)) l.greatest
