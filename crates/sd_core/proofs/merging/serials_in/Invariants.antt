use Rattle.std.proofs.Common.{◌≡◌, map, take, Bor}
use Rattle.sd_chain.specs.Catalog.{Opened}
use Rattle.sd_core.proofs.merging.serials_in.Given as goal

abbrev pub invariant-loop-image : goal.invariant-loop-image
invariant-loop-image l = l.serials.items ≡ map (λ (i : Bor Opened). i.now.header.serial) (take l.image-index l.image-items)
