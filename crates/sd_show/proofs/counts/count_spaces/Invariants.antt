use Rattle.std.proofs.Common.{◌≡◌, ◌≤◌, ◌+◌, ◌-◌, ◌^◌, min}
use Rattle.sd_show.specs.Counts.{spaces_pages}
use Rattle.sd_show.specs.Items.{spaces_in}
use Rattle.sd_show.proofs.counts.count_spaces.Given as goal

-- the pages so far and those that are left are all
abbrev pub invariant-loop-left : goal.invariant-loop-left
invariant-loop-left l = record {
  fits : l.pages ≤ 2 ^ 64 - 1;
  all : min (l.pages + spaces_pages l.fn.kind (spaces_in l.left l.rest)) (2 ^ 64 - 1) ≡ min (spaces_pages l.fn.kind (spaces_in l.fn.count l.fn.bytes)) (2 ^ 64 - 1);
}

abbrev pub decreases-loop-left : goal.decreases-loop-left
decreases-loop-left l = l.left
