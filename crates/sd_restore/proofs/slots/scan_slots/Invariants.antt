use Rattle.std.proofs.Common.{◌≡◌, ◌+◌, ◌≤◌, length, sum_by, take}
use Rattle.sd_disk.specs.Reads.{OnlyReads}
use Rattle.sd_restore.specs.Calls.{calls_for}
use Rattle.sd_restore.specs.Scanned.{AreRead, IsScanned}
use Rattle.sd_restore.proofs.slots.scan_slots.Given as goal

-- the slots that came so far
abbrev pub invariant-loop-slot : goal.invariant-loop-slot
invariant-loop-slot g l = record {
  reads : OnlyReads g.D.Disk l.fn.disk l.disk;
  count : l.slot-end ≡ length (g.D.Disk.contents l.fn.disk);
  room : l.scanned.images ≤ l.slot;
  read : AreRead (length (g.D.Disk.contents l.fn.disk)) l.scanned.catalog;
  scanned : g.D.Disk.is_honest l.disk → IsScanned (g.D.Disk.contents l.fn.disk) l.slot l.scanned;
  stays : g.D.Disk.failed l.disk ≡ g.D.Disk.failed l.fn.disk;
  calls : g.D.Disk.is_honest l.disk → g.D.Disk.calls l.disk ≤ g.D.Disk.calls l.fn.disk + sum_by calls_for (take l.slot (g.D.Disk.contents l.fn.disk));
}
