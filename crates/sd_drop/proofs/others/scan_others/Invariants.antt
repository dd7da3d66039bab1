use Rattle.std.proofs.Common.{◌≡◌, ◌≤◌, length}
use Rattle.sd_disk.specs.Reads.{OnlyReads}
use Rattle.sd_restore.specs.Scanned.{AreRead, IsScanned}
use Rattle.sd_drop.specs.Closing.{closed_at}
use Rattle.sd_drop.proofs.others.scan_others.Given as goal

-- the slots that came so far
abbrev pub invariant-loop-next : goal.invariant-loop-next
invariant-loop-next g l = record {
  reads : OnlyReads g.D.Disk l.fn.disk l.disk;
  count : l.next-end ≡ length (g.D.Disk.contents l.fn.disk);
  room : l.scanned.images ≤ l.next;
  read : AreRead (length (g.D.Disk.contents l.fn.disk)) l.scanned.catalog;
  scanned : g.D.Disk.is_honest l.disk → IsScanned (closed_at (g.D.Disk.contents l.fn.disk) l.fn.slot) l.next l.scanned;
}
