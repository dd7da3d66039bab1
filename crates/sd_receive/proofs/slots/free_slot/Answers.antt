use Rattle.std.proofs.Common.{◌≢◌, All, Bor, subst}
use Rattle.sd_chain.specs.Catalog.{Opened}
use Rattle.sd_receive.proofs.CatalogLemmas.{all_mapped}
use Rattle.sd_receive.proofs.slots.free_slot.Goals as goal

pub returns-then-is_free-clause-free : goal.returns-then-is_free-clause-free
returns-then-is_free-clause-free c =
    subst (All (λ (i : Opened). i.slot ≢ c.loop-slot.slot)) c.loop-slot.invariant
    (all_mapped (λ (i : Bor Opened). i.now) (λ (i : Opened). i.slot ≢ c.loop-slot.slot) c.in_ok-images.images.items
    (subst (All (λ (i : Bor Opened). i.now.slot ≢ c.loop-slot.slot)) c.deref.ensures.value (c.is_free.ensures c.if-is_free.true)))
