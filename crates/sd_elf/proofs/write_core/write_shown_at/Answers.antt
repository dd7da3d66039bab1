use Rattle.std.proofs.Common.{◌≡◌, List, ℕ, All, length, map, sym, subst}
use Rattle.std.proofs.lemmas.Result.{on_ok_weaker}
use Rattle.sd_chain.specs.Store.{IsCatalogOf}
use Rattle.sd_restore.specs.declared.placed_run.PlacedRun.{PlacedRun}
use Rattle.sd_image.specs.Table.{listing_of}
use Rattle.sd_restore.specs.Placed.{IsInSlots, placed_pages}
use Rattle.sd_elf.specs.Files.{TakesFiles, placed_cores}
use Rattle.sd_elf.proofs.FileLemmas.{takes_cores_at}
use Rattle.sd_elf.proofs.write_core.write_shown_at.Goals as goal

pub write_placed-requires-clause-slots : goal.write_placed-requires-clause-slots
write_placed-requires-clause-slots g c =
    let same : g.D.Disk.contents c.scan.new.disk ≡ g.D.Disk.contents c.args.disk.now = c.in_ok-catalog.ensures.reads.same in
    subst (λ contents. All (λ (r : PlacedRun). IsInSlots (length contents) r.there) c.in_ok-placed.placed.runs.items) (sym same)
    (c.in_ok-placed.ensures.slots (length (g.D.Disk.contents c.args.disk.now)) c.in_ok-catalog.ensures.slots)

pub returns-clause-cores : goal.returns-clause-cores
returns-clause-cores g c = λ honest.
    let contents : List (List ℕ) = g.D.Disk.contents c.args.disk.now in
    let placed = c.in_ok-placed.placed in
    let scanned = c.write_placed.ensures.reads.honest honest in
    let catalog : IsCatalogOf contents c.in_ok-catalog.catalog = c.in_ok-catalog.ensures.catalog scanned in
    let same : g.D.Disk.contents c.scan.new.disk ≡ contents = c.in_ok-catalog.ensures.reads.same in
    let wanted = g.S.CoreFiles.wanted c.args.files.now in
    let before = g.S.CoreFiles.taken c.args.files.now in
    let after = g.S.CoreFiles.taken c.write_placed.new.files in
    let spaces = map listing_of placed.spaces.now in
    let pages = placed_pages placed.runs.items in
    on_ok_weaker c.write_placed.result
    (λ taken. takes_cores_at c.args.threads.now wanted contents c.args.number placed.checkpoint spaces pages before after c.in_ok-placed.ensures.number (c.in_ok-placed.ensures.shown contents catalog) (c.in_ok-placed.ensures.laid contents catalog)
    (subst (λ contents. TakesFiles before after (placed_cores c.args.threads.now wanted contents placed.checkpoint pages spaces)) same taken))
    (c.write_placed.ensures.taken honest)
