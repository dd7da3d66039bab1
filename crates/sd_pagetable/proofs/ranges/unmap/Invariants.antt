use Rattle.std.proofs.Common.{◌≤◌, ◌-◌}
use Rattle.sd_areas.specs.Pages.{is_within}
use Rattle.sd_pagetable.specs.Ranges.{IsCleared}
use Rattle.sd_pagetable.proofs.ranges.unmap.Given as goal

-- the pages up to this one were unmapped
abbrev pub invariant-loop-reached : goal.invariant-loop-reached
invariant-loop-reached l = record {
  begun : l.fn.first ≤ l.reached;
  within : l.reached ≤ l.end;
  done : IsCleared l.fn.paging l.paging l.space (is_within l.fn.first (l.reached - l.fn.first));
}

abbrev pub decreases-loop-reached : goal.decreases-loop-reached
decreases-loop-reached l = l.end - l.reached
