use Rattle.std.proofs.Common.{◌≡◌, Bor, map}
use Rattle.sd_chain.specs.Catalog.{Opened, images}
use Rattle.sd_receive.proofs.slots.free_slot.Given as goal

-- the list is that of the catalog
abbrev pub invariant-loop-slot : goal.invariant-loop-slot
invariant-loop-slot l = map (λ (i : Bor Opened). i.now) l.images.items ≡ images l.catalog
