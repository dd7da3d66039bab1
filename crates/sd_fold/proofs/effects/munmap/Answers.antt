use Rattle.sd_areas.specs.Memory.{memory_of}
use Rattle.sd_areas.specs.Pages.{page_of, pages_for}
use Rattle.sd_areas.specs.PlainMemory.{Page}
use Rattle.sd_pagetable.specs.Nested.{inside, remove_within}
use Rattle.sd_fold.specs.Overlay.{memory_over, pages_over}
use Rattle.sd_fold.proofs.OverlayLemmas.{changed_memory}
use Rattle.sd_fold.proofs.Tables.{on_ok, same_run}
use Rattle.sd_fold.proofs.effects.munmap.Goals as goal

pub returns : goal.returns
returns c =
    let base = memory_of c.args.base.now in
    let below = inside base c.args.space in
    let now = memory_over c.args.overlay.now.entries base in
    let start = page_of c.args.address in
    let count = pages_for c.args.length in
    on_ok c.put_changes.result _ _ (λ put. changed_memory c.args.overlay.now.entries c.take_changes-changes.new.overlay.entries c.put_changes.new.overlay.entries base c.args.space
    (pages_over c.unmap_run.new.changes.entries below) (remove_within (inside now c.args.space) start count)
    (same_run (remove_within {X = Page}) (pages_over c.take_changes-changes.result.entries below) (inside now c.args.space) (pages_over c.unmap_run.new.changes.entries below) _ _ start count
    (rw c.pages_in.ensures at c.in_ok-unmap_run.ensures) (c.take_changes-changes.ensures.changes base c.requires.alive) c.run_of-first.ensures.first c.run_of-first.ensures.end)
    (put base) c.take_changes-changes.ensures.rest) c.put_changes.ensures
