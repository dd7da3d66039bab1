use Rattle.std.proofs.Common.{◌≡◌, ◌≤◌, ◌-◌, ◌++◌, ℕ, List}
use Rattle.std.specs.Prelude.{slice_range}
use Rattle.sha2.specs.Hashers.{Holds256}
use Rattle.sd_disk.specs.Contents.{file_at}
use Rattle.sd_disk.specs.Reads.{OnlyReads}
use Rattle.sd_show.proofs.digest.feed_behind.Given as goal

-- the hasher was fed the bytes so far
abbrev pub invariant-loop-at : goal.invariant-loop-at
invariant-loop-at g l = record {
  low : 4096 ≤ l.at;
  within : l.at ≤ l.len;
  reads : OnlyReads g.D.Disk l.fn.disk l.disk;
  stays : g.D.Disk.failed l.disk ≡ g.D.Disk.failed l.fn.disk;
  fed : g.D.Disk.is_honest l.disk → (fed : List ℕ) → Holds256 l.fn.hasher fed
      → Holds256 l.hasher (fed ++ slice_range (file_at (g.D.Disk.contents l.fn.disk) l.slot) 4096 l.at);
}

abbrev pub decreases-loop-at : goal.decreases-loop-at
decreases-loop-at g l = l.len - l.at
