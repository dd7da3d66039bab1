use Rattle.std.proofs.Common.{◌≡◌, ◌≢◌, ◌+◌, ℕ, length}
use Rattle.sd_disk.specs.Contents.{file_at}
use Rattle.sd_disk.specs.Spans.{LeavesOnly}
use Rattle.sd_receive.specs.Arrived.{HasPages}
use Rattle.sd_receive.specs.Arriving.{KeepsImages}
use Rattle.sd_receive.proofs.pages.put_piece.Given as goal

-- the data pages so far stand in the slot, and all images are kept
abbrev pub invariant-loop-at : goal.invariant-loop-at
invariant-loop-at g l = record {
  count : length (g.D.Disk.contents l.disk) ≡ length (g.D.Disk.contents l.fn.disk);
  others : (other : ℕ) → other ≢ l.slot → file_at (g.D.Disk.contents l.disk) other ≡ file_at (g.D.Disk.contents l.fn.disk) other;
  honest : g.D.Disk.is_honest l.disk → g.D.Disk.is_honest l.fn.disk;
  taken : HasPages (g.D.Disk.contents l.fn.disk) (g.D.Disk.may_leave l.fn.disk) l.slot l.place l.fn.digester
      → HasPages (g.D.Disk.contents l.disk) (g.D.Disk.may_leave l.disk) l.slot (l.place + l.at) l.digester;
  keeps : HasPages (g.D.Disk.contents l.fn.disk) (g.D.Disk.may_leave l.fn.disk) l.slot l.place l.fn.digester
      → LeavesOnly g.D.Disk l.fn.disk l.disk (KeepsImages (g.D.Disk.contents l.fn.disk));
}
