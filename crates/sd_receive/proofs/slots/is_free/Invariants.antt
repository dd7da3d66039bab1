use Rattle.std.proofs.Common.{◌≢◌, ◌<◌, ℕ, Bor, slice_index_or}
use Rattle.sd_chain.specs.Catalog.{Opened}
use Rattle.sd_receive.proofs.slots.is_free.Given as goal

-- none of the images so far stands there
abbrev pub invariant-loop-image : goal.invariant-loop-image
invariant-loop-image l = (k : ℕ) (d : Bor Opened) → k < l.image-index → (slice_index_or l.images k d).now.slot ≢ l.slot
