use Rattle.std.proofs.Common.{◌≡◌, ◌+◌, ◌≤◌, ℕ}
use Rattle.std.specs.FinMap as finmap
use Rattle.sd_areas.specs.Memory.{memory_of}
use Rattle.sd_disk.specs.Reads.{OnlyReads}
use Rattle.sd_restore.specs.Placed.{with_pages}
use Rattle.sd_restore.proofs.RunLemmas.{first_pages}
use Rattle.sd_restore.proofs.pages.read_run.Given as goal

-- so many pages were read
abbrev pub invariant-loop-k : goal.invariant-loop-k
invariant-loop-k g l = record {
  reads : OnlyReads g.D.Disk l.fn.disk l.disk;
  checkpoint : l.snapshot.checkpoint ≡ l.fn.snapshot.checkpoint;
  spaces : (space : ℕ) → finmap.contains_key (memory_of l.snapshot) space ≡ finmap.contains_key (memory_of l.fn.snapshot) space;
  memory : g.D.Disk.is_honest l.disk → memory_of l.snapshot ≡ with_pages (g.D.Disk.contents l.fn.disk) (memory_of l.fn.snapshot) (first_pages l.run l.k);
  stays : g.D.Disk.failed l.disk ≡ g.D.Disk.failed l.fn.disk;
  calls : g.D.Disk.calls l.disk ≤ g.D.Disk.calls l.fn.disk + l.k;
}
