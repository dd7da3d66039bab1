use Rattle.std.proofs.Common.{◌≡◌, ◌≤◌, ◌-◌}
use Rattle.sd_pagetable.specs.Nested.{inside, change_within}
use Rattle.sd_pagetable.specs.Page.{protected_page}
use Rattle.sd_pagetable.specs.Tracking.{with_space}
use Rattle.sd_pagetable.proofs.ranges.protect.Given as goal

-- the pages up to this one were protected
abbrev pub invariant-loop-reached : goal.invariant-loop-reached
invariant-loop-reached l = record {
  begun : l.first ≤ l.reached;
  within : l.reached ≤ l.end;
  done : l.paging ≡ with_space l.fn.paging l.space (change_within (protected_page l.prot) (inside l.fn.paging.spaces l.space) l.first (l.reached - l.first));
}

abbrev pub decreases-loop-reached : goal.decreases-loop-reached
decreases-loop-reached l = l.end - l.reached
