use Rattle.std.proofs.Common.{ℕ, Option}
use Rattle.sd_areas.specs.PlainMemory.{PlainMemory}
use Rattle.sd_chain.specs.Ways.{AreImages}
use Rattle.sd_image.specs.Shows.{Shows}
use Rattle.sd_receive.specs.Arrived.{IsReady}
use Rattle.sd_arrivals.proofs.ReceivedLemmas.{SoFar}
use Rattle.sd_arrivals.proofs.receiving.receive_all.Given as goal

-- the checkpoints so far are received
abbrev pub invariant-loop-count : goal.invariant-loop-count
invariant-loop-count g l = record {
  images : AreImages l.receiver.catalog;
  honest : g.D.Disk.is_honest l.disk → g.D.Disk.is_honest l.fn.disk;
  ready : g.D.Disk.is_honest l.disk → IsReady (g.D.Disk.contents l.fn.disk) (g.D.Disk.may_leave l.fn.disk) l.fn.receiver.catalog
      → IsReady (g.D.Disk.contents l.disk) (g.D.Disk.may_leave l.disk) l.receiver.catalog;
  so_far : g.D.Disk.is_honest l.disk → IsReady (g.D.Disk.contents l.fn.disk) (g.D.Disk.may_leave l.fn.disk) l.fn.receiver.catalog
      → (shown : Option (ℕ × PlainMemory)) → Shows (g.D.Disk.contents l.fn.disk) shown
      → SoFar g.D.Disk g.R.Read.remaining l.fn.disk l.disk l.fn.receiver.reader l.receiver.reader shown (g.W.Write.contents l.fn.out.writer) (g.W.Write.contents l.out.writer);
}
