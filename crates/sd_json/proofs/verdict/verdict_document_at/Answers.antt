-- The checkpoint is one that the store's files have.
use Rattle.std.proofs.Common.{◌∙◌, ℕ, Some, map, ap}
use Rattle.sd_image.specs.Table.{listing_of}
use Rattle.sd_restore.specs.Placed.{placed_memory, placed_pages}
use Rattle.sd_json.specs.Documents.{verdict}
use Rattle.sd_json.proofs.verdict.verdict_document_at.Goals as goal

pub returns-clause-exact : goal.returns-clause-exact
returns-clause-exact g c = λ honest.
    let contents = g.D.Disk.contents c.args.disk.now in
    let placed = c.in_ok-place_at.field-0 in
    record {
      memory = placed_memory contents (map listing_of placed.spaces.now) (placed_pages placed.runs.items);
      shows = c.in_ok-place_at.ensures.shown contents (c.in_ok-catalog.ensures.catalog honest);
      places = c.in_ok-catalog.catalog;
      catalog = c.in_ok-catalog.ensures.catalog honest;
      is = c.in_ok-report_json.ensures ∙ ap (verdict (Some c.args.number)) c.in_ok-images.ensures;
    }
