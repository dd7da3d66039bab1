use Rattle.std.proofs.Common.{◌≡◌, ◌-◌, ◌≤◌, ◌^◌, ℕ, length}
use Rattle.sd_disk.specs.Reads.{OnlyReads}
use Rattle.sd_diff.specs.Difference.{Adds}
use Rattle.sd_diff.specs.Held.{AreRising, EndsAfter, held_at}
use Rattle.sd_diff.specs.Spaces.{ArePagesOf}
use Rattle.sd_diff.proofs.spaces.diff_space.Given as goal

-- what differs up to a page was noted, and these runs have the pages from it on
abbrev pub invariant-loop-at : goal.invariant-loop-at
invariant-loop-at g l = record {
  high : l.at ≤ 2 ^ 35;
  reads : OnlyReads g.D.Disk l.fn.disk l.disk;
  old_runs : ArePagesOf (length (g.D.Disk.contents l.fn.disk)) l.before;
  new_runs : ArePagesOf (length (g.D.Disk.contents l.fn.disk)) l.after;
  old_ahead : EndsAfter l.at l.before;
  new_ahead : EndsAfter l.at l.after;
  old_same : (page : ℕ) → l.at ≤ page → held_at l.before page ≡ held_at l.fn.old page;
  new_same : (page : ℕ) → l.at ≤ page → held_at l.after page ≡ held_at l.fn.new page;
  old_rising : AreRising l.fn.old → AreRising l.before;
  new_rising : AreRising l.fn.new → AreRising l.after;
  adds : g.D.Disk.is_honest l.disk → AreRising l.fn.old → AreRising l.fn.new → Adds (g.D.Disk.contents l.fn.disk) l.space 0 l.at (held_at l.fn.old) (held_at l.fn.new) l.fn.into l.into;
}

abbrev pub decreases-loop-at : goal.decreases-loop-at
decreases-loop-at g l = 2 ^ 35 - l.at
