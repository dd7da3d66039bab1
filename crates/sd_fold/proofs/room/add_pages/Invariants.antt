use Rattle.std.proofs.Common.{◌≡◌}
use Rattle.sd_areas.specs.Memory.{memory_of}
use Rattle.sd_fold.proofs.AddedLemmas.{PagesAdded}
use Rattle.sd_fold.proofs.room.add_pages.Given as goal

abbrev pub invariant-loop-page : goal.invariant-loop-page
invariant-loop-page l = PagesAdded l.fn.changes.entries l.page-iterator l.left.entries l.fn.added.items l.added.items (memory_of l.fn.base) (memory_of l.base) l.space
    × (l.base.checkpoint ≡ l.fn.base.checkpoint)
