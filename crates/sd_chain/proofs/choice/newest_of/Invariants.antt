use Rattle.std.proofs.Common.{map}
use Rattle.std.specs.Map.Iter.{deref_pair}
use Rattle.sd_chain.specs.Catalog.{images, IsNewestChoice}
use Rattle.sd_chain.proofs.choice.newest_of.Given as goal

abbrev pub invariant-loop-place : goal.invariant-loop-place
invariant-loop-place l = IsNewestChoice (images (map deref_pair l.yielded)) l.newest
