use Rattle.std.proofs.Common.{◌≤◌}
use Rattle.sd_receive.proofs.spelling.count_in.Given as goal

-- each of those so far is counted
abbrev pub invariant-loop-page : goal.invariant-loop-page
invariant-loop-page l = l.count ≤ l.page-index
