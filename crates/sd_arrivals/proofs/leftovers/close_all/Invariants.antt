use Rattle.std.proofs.Common.{ℕ, Option}
use Rattle.sd_areas.specs.PlainMemory.{PlainMemory}
use Rattle.sd_disk.specs.Crash.{Within}
use Rattle.sd_disk.specs.Spans.{LeavesOnly}
use Rattle.sd_image.specs.Shows.{Shows}
use Rattle.sd_arrivals.proofs.leftovers.close_all.Given as goal

-- what is shown is shown still
abbrev pub invariant-loop-slot : goal.invariant-loop-slot
invariant-loop-slot g l = record {
  honest : g.D.Disk.is_honest l.disk → g.D.Disk.is_honest l.fn.disk;
  keeps : g.D.Disk.is_honest l.disk → (shown : Option (ℕ × PlainMemory)) → Shows (g.D.Disk.contents l.fn.disk) shown
      → Within (g.D.Disk.may_leave l.fn.disk) (λ c. Shows c shown) → LeavesOnly g.D.Disk l.fn.disk l.disk (λ c. Shows c shown);
}
