use Rattle.std.proofs.Common.{◌≡◌}
use Rattle.sd_areas.specs.Memory.{memory_of}
use Rattle.sd_fold.proofs.SettledLemmas.{PagesSettled}
use Rattle.sd_fold.proofs.settling.settle_pages.Given as goal

abbrev pub invariant-loop-page : goal.invariant-loop-page
invariant-loop-page l = PagesSettled l.fn.changes.entries l.page-iterator (memory_of l.fn.base) (memory_of l.base) l.space
    × (l.base.checkpoint ≡ l.fn.base.checkpoint)
