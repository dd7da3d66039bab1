use Rattle.std.proofs.Common.{take}
use Rattle.std.specs.Io.KnownBytes.{Appends}
use Rattle.sd_disk.specs.Reads.{OnlyReads}
use Rattle.sd_restore.specs.Placed.{placed_pages}
use Rattle.sd_readers.specs.Texts.{placed_lines}
use Rattle.sd_readers.proofs.restore.print_pages.Given as goal

-- the runs so far were only read, and those of the space are printed
abbrev pub invariant-loop-run : goal.invariant-loop-run
invariant-loop-run g l = record {
  reads : OnlyReads g.D.Disk l.fn.disk l.disk;
  printed : g.D.Disk.is_honest l.disk → Appends (g.W.Write.contents l.fn.out.writer) (g.W.Write.contents l.out.writer)
      (placed_lines (g.D.Disk.contents l.fn.disk) l.space (placed_pages (take l.run-index l.runs)));
}
