use Rattle.std.proofs.Common.{◌≤◌, ◌-◌}
use Rattle.sd_pagetable.specs.Page.{fresh_page}
use Rattle.sd_pagetable.proofs.RangeSteps.{Fills}
use Rattle.sd_pagetable.proofs.ranges.fill.Given as goal

-- the holes up to this page were filled, and there is room for the others
abbrev pub invariant-loop-reached : goal.invariant-loop-reached
invariant-loop-reached l = record {
  begun : l.first ≤ l.reached;
  within : l.reached ≤ l.end;
  fills : Fills l.fn.paging l.paging l.space l.first l.reached l.end (fresh_page l.prot);
}

abbrev pub decreases-loop-reached : goal.decreases-loop-reached
decreases-loop-reached l = l.end - l.reached
