use Rattle.std.proofs.Common.{[], ◌≡◌, ◌≢◌, ◌≤◌, ℕ, List, length, take}
use Rattle.sd_disk.specs.Contents.{file_at}
use Rattle.sd_disk.specs.Spans.{LeavesOnly}
use Rattle.sd_receive.specs.Arriving.{KeepsImages}
use Rattle.sd_receive.specs.Merged.{AreAlikeBut, HasCopies, pages_seen}
use Rattle.sd_receive.proofs.copying.copy_pages.Given as goal

-- the pages so far were copied, and all images are kept
abbrev pub invariant-loop-page : goal.invariant-loop-page
invariant-loop-page g l = record {
  count : length (g.D.Disk.contents l.disk) ≡ length (g.D.Disk.contents l.fn.disk);
  others : (other : ℕ) → other ≢ l.slot → file_at (g.D.Disk.contents l.disk) other ≡ file_at (g.D.Disk.contents l.fn.disk) other;
  honest : g.D.Disk.is_honest l.disk → g.D.Disk.is_honest l.fn.disk;
  stored : l.copied.stored ≤ l.page-index;
  copied : g.D.Disk.is_honest l.disk → (from : List (List ℕ)) → AreAlikeBut l.slot from (g.D.Disk.contents l.fn.disk)
      → HasCopies from (g.D.Disk.contents l.fn.disk) (g.D.Disk.may_leave l.fn.disk) l.slot [] l.fn.copied
      → HasCopies from (g.D.Disk.contents l.disk) (g.D.Disk.may_leave l.disk) l.slot (pages_seen (take l.page-index l.pages)) l.copied;
  keeps : g.D.Disk.is_honest l.disk → (from : List (List ℕ)) → AreAlikeBut l.slot from (g.D.Disk.contents l.fn.disk)
      → HasCopies from (g.D.Disk.contents l.fn.disk) (g.D.Disk.may_leave l.fn.disk) l.slot [] l.fn.copied
      → LeavesOnly g.D.Disk l.fn.disk l.disk (KeepsImages (g.D.Disk.contents l.fn.disk));
}
