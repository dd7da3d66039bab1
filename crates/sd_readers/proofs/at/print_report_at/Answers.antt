use Rattle.std.proofs.Common.{List, ℕ, map}
use Rattle.sd_image.specs.Table.{listing_of}
use Rattle.sd_restore.specs.Placed.{placed_memory, placed_pages}
use Rattle.sd_readers.proofs.at.print_report_at.Goals as goal

pub returns-clause-shown : goal.returns-clause-shown
returns-clause-shown g c = λ honest.
    let contents : List (List ℕ) = g.D.Disk.contents c.args.disk.now in
    let placed = c.in_ok-place_at.field-0 in
    (placed_memory contents (map listing_of placed.spaces.now) (placed_pages placed.runs.items), c.in_ok-place_at.ensures.shown contents (c.in_ok-catalog.ensures.catalog honest))
