use Rattle.std.proofs.Common.{◌≡◌}
use Rattle.sd_pagetable.specs.Contents.{plain_of}
use Rattle.sd_procfs.proofs.ClearSteps.{ClearsAfter, way_left}
use Rattle.sd_procfs.proofs.ClearHistory.{HasHistoryAfter}
use Rattle.sd_procfs.proofs.clearing.clear_pages.Given as goal

-- the pages after the cursor were cleared
abbrev pub invariant-loop-cursor : goal.invariant-loop-cursor
invariant-loop-cursor l = record {
  behind : ClearsAfter l.cursor l.space l.fn.memory l.memory;
  history : HasHistoryAfter l.cursor l.space l.fn.memory l.memory;
  memory : plain_of l.memory ≡ plain_of l.fn.memory;
}

abbrev pub decreases-loop-cursor : goal.decreases-loop-cursor
decreases-loop-cursor l = way_left l.cursor
