use Rattle.std.proofs.Common.{◌∙◌, ap, sym}
use Rattle.std.specs.FinMap as finmap
use Rattle.sd_areas.specs.Memory.{memory_of}
use Rattle.sd_areas.specs.Pages.{page_of}
use Rattle.sd_areas.specs.PlainMemory.{Space}
use Rattle.sd_pagetable.specs.Nested.{inside, value_at}
use Rattle.sd_fold.specs.Overlay.{memory_over, pages_over}
use Rattle.sd_fold.proofs.Tables.{not_none, on_ok, stored_memory}
use Rattle.sd_fold.proofs.effects.store_at.Goals as goal

pub returns-in_default : goal.returns-in_default
returns-in_default c =
    let base = memory_of c.args.base.now in
    absurd (not_none (value_at (memory_over c.args.overlay.now.entries base) c.args.space (page_of c.args.address))
    (ap (λ (m : Space). finmap.get m (page_of c.args.address)) (sym (c.take_changes-changes.ensures.changes base c.requires.alive))
    ∙ rw c.pages_in-pages.ensures at c.in_default.ensures) c.requires.mapped)

pub returns : goal.returns
returns c =
    let base = memory_of c.args.base.now in
    let below = inside base c.args.space in
    on_ok c.put_changes.result _ _ (λ put. stored_memory (memory_over c.args.overlay.now.entries base) (memory_over c.put_changes.new.overlay.entries base) c.args.space c.args.address c.args.bytes.now
    (pages_over c.take_changes-changes.result.entries below) (pages_over c.store.new.changes.entries below) (c.take_changes-changes.ensures.changes base c.requires.alive)
    (rw (c.in-Some.ensures, c.pages_in-pages.ensures) at c.in_ok-store.ensures) c.requires.mapped
    (put base ∙ c.take_changes-changes.ensures.rest base _)) c.put_changes.ensures
