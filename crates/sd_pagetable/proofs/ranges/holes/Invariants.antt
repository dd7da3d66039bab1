use Rattle.std.proofs.Common.{◌≡◌, ◌≤◌, ◌-◌, not, is_some}
use Rattle.std.specs.Prelude.{count_by}
use Rattle.sd_areas.specs.Pages.{pages_from}
use Rattle.sd_pagetable.specs.Contents.{page_at}
use Rattle.sd_pagetable.proofs.ranges.holes.Given as goal

-- the holes up to this page were counted
abbrev pub invariant-loop-reached : goal.invariant-loop-reached
invariant-loop-reached l = record {
  begun : l.first ≤ l.reached;
  within : l.reached ≤ l.end;
  counted : l.count ≡ count_by (λ page. not (is_some (page_at l.paging l.space page))) (pages_from l.first (l.reached - l.first));
  few : l.count ≤ l.reached - l.first;
}

abbrev pub decreases-loop-reached : goal.decreases-loop-reached
decreases-loop-reached l = l.end - l.reached
