use Rattle.std.proofs.Common.{ℕ, Some, map, subst}
use Rattle.sd_areas.specs.PlainMemory.{PlainMemory}
use Rattle.sd_image.specs.Shows.{Shows}
use Rattle.sd_image.specs.Table.{listing_of}
use Rattle.sd_restore.specs.Placed.{placed_memory, placed_pages}
use Rattle.sd_receive.proofs.receiver.check_shown.Goals as goal

pub returns-in-Ok : goal.returns-in-Ok
returns-in-Ok c = λ kind contents catalog.
    let memory : PlainMemory = placed_memory contents (map listing_of c.in-Ok.placed.spaces.now) (placed_pages c.in-Ok.placed.runs.items) in
    (memory, subst (λ (n : ℕ). Shows contents (Some (n, memory))) c.if-place_newest-header.true (c.in-Ok.ensures.shown contents catalog))
