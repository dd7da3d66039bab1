use Rattle.std.proofs.Common.{ℕ, Option}
use Rattle.sd_areas.specs.PlainMemory.{PlainMemory}
use Rattle.sd_disk.specs.Spans.{LeavesOnly}
use Rattle.sd_image.specs.Shows.{Shows}
use Rattle.sd_chain.specs.Ways.{AreImages}
use Rattle.sd_receive.specs.Arrived.{IsReady}
use Rattle.sd_receive.proofs.closing.close_unneeded.Given as goal

-- what is shown is shown still, and the store is ready
abbrev pub invariant-loop-serial : goal.invariant-loop-serial
invariant-loop-serial g l = record {
  images : AreImages l.catalog;
  honest : g.D.Disk.is_honest l.disk → g.D.Disk.is_honest l.fn.disk;
  ready : g.D.Disk.is_honest l.disk → IsReady (g.D.Disk.contents l.fn.disk) (g.D.Disk.may_leave l.fn.disk) l.fn.catalog
      → IsReady (g.D.Disk.contents l.disk) (g.D.Disk.may_leave l.disk) l.catalog;
  keeps : g.D.Disk.is_honest l.disk → IsReady (g.D.Disk.contents l.fn.disk) (g.D.Disk.may_leave l.fn.disk) l.fn.catalog
      → (shown : Option (ℕ × PlainMemory)) → Shows (g.D.Disk.contents l.fn.disk) shown → LeavesOnly g.D.Disk l.fn.disk l.disk (λ c. Shows c shown);
}
