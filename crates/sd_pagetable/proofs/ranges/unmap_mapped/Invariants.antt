use Rattle.std.proofs.Common.{◌-◌}
use Rattle.sd_areas.specs.Pages.{is_within}
use Rattle.sd_pagetable.specs.Ranges.{IsCleared}
use Rattle.sd_pagetable.proofs.ranges.unmap_mapped.Given as goal

-- the pages up to this one were unmapped
abbrev pub invariant-loop-number : goal.invariant-loop-number
invariant-loop-number l = record { done : IsCleared l.fn.paging l.paging l.space (is_within l.first (l.number - l.first)) }
