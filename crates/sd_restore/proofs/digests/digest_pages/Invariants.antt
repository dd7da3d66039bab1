use Rattle.std.proofs.Common.{◌≡◌, ◌≤◌, ◌+◌, ◌-◌, ◌*◌, ◌++◌, ℕ, List}
use Rattle.std.specs.Prelude.{slice_range}
use Rattle.sd_disk.specs.Contents.{file_at}
use Rattle.sd_disk.specs.Reads.{OnlyReads}
use Rattle.sd_image.specs.Digests.{HasFed}
use Rattle.sd_restore.proofs.digests.digest_pages.Given as goal

-- the digester was fed so many of the file's first data pages
abbrev pub invariant-loop-done : goal.invariant-loop-done
invariant-loop-done g l = record {
  within : l.done ≤ l.pages;
  reads : OnlyReads g.D.Disk l.fn.disk l.disk;
  fed : g.D.Disk.is_honest l.disk → (fed : List ℕ) → HasFed l.fn.digester fed
      → HasFed l.digester (fed ++ slice_range (file_at (g.D.Disk.contents l.fn.disk) l.slot) 4096 (4096 + 4096 * l.done));
  stays : g.D.Disk.failed l.disk ≡ g.D.Disk.failed l.fn.disk;
  calls : g.D.Disk.calls l.disk ≤ g.D.Disk.calls l.fn.disk + l.done;
}

abbrev pub decreases-loop-done : goal.decreases-loop-done
decreases-loop-done g l = l.pages - l.done
