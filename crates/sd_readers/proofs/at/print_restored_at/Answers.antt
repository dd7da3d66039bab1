use Rattle.std.proofs.Common.{◌≡◌, List, ℕ, All, length, sym, subst, map}
use Rattle.sd_chain.specs.Store.{IsCatalogOf}
use Rattle.sd_restore.specs.declared.placed_run.PlacedRun.{PlacedRun}
use Rattle.sd_restore.specs.Placed.{IsInSlots, placed_pages}
use Rattle.std.proofs.lemmas.Result.{on_ok_weaker}
use Rattle.std.specs.Io.KnownBytes.{Appends}
use Rattle.sd_image.specs.Table.{listing_of}
use Rattle.sd_readers.specs.Texts.{placed_memory_text}
use Rattle.sd_readers.proofs.AtLemmas.{prints_memory_at}
use Rattle.sd_readers.proofs.at.print_restored_at.Goals as goal

pub print_placed-requires-clause-slots : goal.print_placed-requires-clause-slots
print_placed-requires-clause-slots g c =
    let same : g.D.Disk.contents c.scan.new.disk ≡ g.D.Disk.contents c.args.disk.now = c.in_ok-catalog.ensures.reads.same in
    subst (λ contents. All (λ (r : PlacedRun). IsInSlots (length contents) r.there) c.in_ok-placed.placed.runs.items) (sym same)
    (c.in_ok-placed.ensures.slots (length (g.D.Disk.contents c.args.disk.now)) c.in_ok-catalog.ensures.slots)

pub returns-clause-text : goal.returns-clause-text
returns-clause-text g c = λ honest.
    let contents : List (List ℕ) = g.D.Disk.contents c.args.disk.now in
    let placed = c.in_ok-placed.placed in
    let scanned = c.print_placed.ensures.reads.honest honest in
    let catalog : IsCatalogOf contents c.in_ok-catalog.catalog = c.in_ok-catalog.ensures.catalog scanned in
    let same : g.D.Disk.contents c.scan.new.disk ≡ contents = c.in_ok-catalog.ensures.reads.same in
    let from = g.W.Write.contents c.args.out.now.writer in
    let to = g.W.Write.contents c.print_placed.new.out.writer in
    let spaces = map listing_of placed.spaces.now in
    let pages = placed_pages placed.runs.items in
    on_ok_weaker c.print_placed.result
    (λ printed. prints_memory_at contents from to c.args.number placed.checkpoint spaces pages c.in_ok-placed.ensures.number (c.in_ok-placed.ensures.shown contents catalog) (c.in_ok-placed.ensures.laid contents catalog)
    (subst (λ contents. Appends from to (placed_memory_text contents placed.checkpoint spaces pages)) same printed))
    (c.print_placed.ensures.text honest)
