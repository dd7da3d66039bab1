use Rattle.std.proofs.Common.{◌≡◌, ℕ, ◌<◌, length}
use Rattle.sd_disk.specs.Contents.{file_at}
use Rattle.sd_disk.specs.Crash.{OnlyAt}
use Rattle.sd_disk.specs.Reads.{OnlyReads}
use Rattle.sd_receive.proofs.settling.settle.Given as goal

-- the slots that were synced so far
abbrev pub invariant-loop-slot : goal.invariant-loop-slot
invariant-loop-slot g l = record {
  count : l.slot-end ≡ length (g.D.Disk.contents l.fn.disk);
  reads : OnlyReads g.D.Disk l.fn.disk l.disk;
  synced : (k : ℕ) → k < l.slot → OnlyAt k (file_at (g.D.Disk.contents l.fn.disk) k) (g.D.Disk.may_leave l.disk);
  stays : g.D.Disk.failed l.disk ≡ g.D.Disk.failed l.fn.disk;
}
