use Rattle.std.proofs.Common.{rules, List, map}
use Rattle.sd_image.specs.Table.{listing_of}
use Rattle.sd_restore.specs.Placed.{placed_memory, placed_pages}
use Rattle.sd_history.proofs.going_back.place_one.Goals as goal

pub returns-clause-goes : goal.returns-clause-goes
returns-clause-goes c = λ contents catalog.
    (placed_memory contents (map listing_of c.in_ok-place_at.field-0.spaces.now) (placed_pages c.in_ok-place_at.field-0.runs.items), c.in_ok-place_at.ensures.shown contents catalog)

pub returns-in_err-place_at-clause-good : goal.returns-in_err-place_at-clause-good
returns-in_err-place_at-clause-good c = λ contents catalog goes.
    let none = c.in_err-place_at.ensures.good contents goes.0 catalog goes.1 in
    search rules

pub returns-in_err-place_at-clause-saved : goal.returns-in_err-place_at-clause-saved
returns-in_err-place_at-clause-saved c = λ contents catalog goes.
    let some = c.in_err-place_at.ensures.saved contents goes.0 catalog goes.1 in
    search rules
