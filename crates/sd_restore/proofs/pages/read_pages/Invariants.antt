use Rattle.std.proofs.Common.{◌≡◌, ◌+◌, ◌≤◌, ℕ, take, length}
use Rattle.std.specs.FinMap as finmap
use Rattle.sd_areas.specs.Memory.{memory_of}
use Rattle.sd_disk.specs.Reads.{OnlyReads}
use Rattle.sd_restore.specs.Placed.{placed_pages, with_pages}
use Rattle.sd_restore.proofs.pages.read_pages.Given as goal

-- the runs so far were read
abbrev pub invariant-loop-run : goal.invariant-loop-run
invariant-loop-run g l = record {
  reads : OnlyReads g.D.Disk l.fn.disk l.disk;
  checkpoint : l.snapshot.checkpoint ≡ l.fn.snapshot.checkpoint;
  spaces : (space : ℕ) → finmap.contains_key (memory_of l.snapshot) space ≡ finmap.contains_key (memory_of l.fn.snapshot) space;
  memory : g.D.Disk.is_honest l.disk → memory_of l.snapshot ≡ with_pages (g.D.Disk.contents l.fn.disk) (memory_of l.fn.snapshot) (placed_pages (take l.run-index l.fn.runs));
  stays : g.D.Disk.failed l.disk ≡ g.D.Disk.failed l.fn.disk;
  calls : g.D.Disk.calls l.disk ≤ g.D.Disk.calls l.fn.disk + length (placed_pages (take l.run-index l.fn.runs));
}
