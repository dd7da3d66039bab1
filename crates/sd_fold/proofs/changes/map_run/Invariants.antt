use Rattle.std.proofs.Common.{◌≡◌, ◌-◌}
use Rattle.sd_areas.specs.PlainMemory.{Space}
use Rattle.sd_pagetable.specs.Nested.{set_within}
use Rattle.sd_pagetable.specs.Page.{zeros}
use Rattle.sd_fold.specs.Overlay.{pages_over}
use Rattle.sd_fold.proofs.changes.map_run.Given as goal

abbrev pub invariant-loop-number : goal.invariant-loop-number
invariant-loop-number l = (pages : Space) → pages_over l.changes.entries pages
    ≡ set_within (pages_over l.fn.changes.entries pages) l.first (l.number - l.first) (record { prot = l.prot; bytes = zeros })
