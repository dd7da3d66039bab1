-- The memory is the one that the store's files have at the checkpoint.
use Rattle.std.proofs.Common.{◌∙◌, ℕ, map, ap}
use Rattle.sd_image.specs.Table.{listing_of}
use Rattle.sd_restore.specs.Placed.{placed_memory, placed_pages}
use Rattle.sd_json.specs.Documents.{memory_fields}
use Rattle.sd_json.proofs.memory.memory_document_at.Goals as goal

pub returns-clause-exact : goal.returns-clause-exact
returns-clause-exact g c = λ honest.
    let contents = g.D.Disk.contents c.args.disk.now in
    let placed = c.in_ok-placed.placed in
    record {
      memory = placed_memory contents (map listing_of placed.spaces.now) (placed_pages placed.runs.items);
      shows = c.in_ok-placed.ensures.shown contents (c.in_ok-catalog.ensures.catalog honest);
      spaces = map listing_of placed.spaces.now;
      runs = placed.runs.items;
      laid = c.in_ok-placed.ensures.laid contents (c.in_ok-catalog.ensures.catalog honest);
      is = c.in_ok-memory_json.ensures ∙ ap (λ (n : ℕ). memory_fields n (map listing_of placed.spaces.now) placed.runs.items) c.in_ok-placed.ensures.number;
    }
