use Rattle.std.proofs.Common.{map, ◌≡◌}
use Rattle.std.specs.Borrow.{Bor}
use Rattle.std.specs.Map.Iter.{deref_pair}
use Rattle.sd_chain.specs.Catalog.{Opened, images}
use Rattle.sd_chain.proofs.choice.images_of.Given as goal

abbrev pub invariant-loop-place : goal.invariant-loop-place
invariant-loop-place l = map (λ (i : Bor Opened). i.now) l.list.items ≡ images (map deref_pair l.yielded)
