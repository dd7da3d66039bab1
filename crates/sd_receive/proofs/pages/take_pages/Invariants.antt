use Rattle.std.proofs.Common.{[], ◌≡◌, ◌≢◌, ◌≤◌, ◌-◌, ◌*◌, ℕ, length}
use Rattle.std.specs.Prelude.{min}
use Rattle.sd_disk.specs.Contents.{file_at}
use Rattle.sd_disk.specs.Spans.{LeavesOnly}
use Rattle.sd_receive.specs.Arrived.{GoesOn, HasPages}
use Rattle.sd_receive.specs.Arriving.{KeepsImages}
use Rattle.sd_receive.proofs.pages.take_pages.Given as goal

-- the data pages so far stand in the slot, all images are kept, and the next were read
abbrev pub invariant-loop-place : goal.invariant-loop-place
invariant-loop-place g l = record {
  few : l.place ≤ l.pages;
  piece : length l.piece.items ≡ min (l.pages - l.place) 16 * 4096;
  count : length (g.D.Disk.contents l.disk) ≡ length (g.D.Disk.contents l.fn.disk);
  others : (other : ℕ) → other ≢ l.slot → file_at (g.D.Disk.contents l.disk) other ≡ file_at (g.D.Disk.contents l.fn.disk) other;
  honest : g.D.Disk.is_honest l.disk → g.D.Disk.is_honest l.fn.disk;
  reads : GoesOn g.R.Read.remaining l.fn.reader [] l.reader;
  taken : HasPages (g.D.Disk.contents l.fn.disk) (g.D.Disk.may_leave l.fn.disk) l.slot 0 l.fn.digester
      → HasPages (g.D.Disk.contents l.disk) (g.D.Disk.may_leave l.disk) l.slot l.place l.digester;
  keeps : HasPages (g.D.Disk.contents l.fn.disk) (g.D.Disk.may_leave l.fn.disk) l.slot 0 l.fn.digester
      → LeavesOnly g.D.Disk l.fn.disk l.disk (KeepsImages (g.D.Disk.contents l.fn.disk));
}

abbrev pub decreases-loop-place : goal.decreases-loop-place
decreases-loop-place g l = l.pages - l.place
