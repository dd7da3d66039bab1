use Rattle.std.proofs.Common.{◌≡◌, ◌-◌}
use Rattle.sd_areas.specs.Memory.{space_of}
use Rattle.sd_areas.specs.PlainMemory.{Page}
use Rattle.sd_pagetable.specs.Nested.{change_within}
use Rattle.sd_fold.specs.Overlay.{pages_over}
use Rattle.sd_fold.proofs.changes.protect_run.Given as goal

abbrev pub invariant-loop-number : goal.invariant-loop-number
invariant-loop-number l = pages_over l.changes.entries (space_of l.pages.entries)
    ≡ change_within (λ (page : Page). record page { prot = l.prot }) (pages_over l.fn.changes.entries (space_of l.pages.entries)) l.first (l.number - l.first)
