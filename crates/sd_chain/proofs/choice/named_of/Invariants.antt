use Rattle.std.proofs.Common.{map}
use Rattle.std.specs.Map.Iter.{deref_pair}
use Rattle.sd_chain.specs.Catalog.{images, IsNamedChoice}
use Rattle.sd_chain.proofs.choice.named_of.Given as goal

abbrev pub invariant-loop-place : goal.invariant-loop-place
invariant-loop-place l = IsNamedChoice l.number (images (map deref_pair l.yielded)) l.named
