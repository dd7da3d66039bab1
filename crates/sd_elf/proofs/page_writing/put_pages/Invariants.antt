use Rattle.std.proofs.Common.{take}
use Rattle.std.specs.Io.KnownBytes.{Appends}
use Rattle.sd_disk.specs.Reads.{OnlyReads}
use Rattle.sd_restore.specs.Placed.{placed_pages}
use Rattle.sd_elf.specs.Texts.{space_bytes}
use Rattle.sd_elf.proofs.page_writing.put_pages.Given as goal

-- the runs so far were only read, and those of the space are written
abbrev pub invariant-loop-run : goal.invariant-loop-run
invariant-loop-run g l = record {
  reads : OnlyReads g.D.Disk l.fn.disk l.disk;
  written : g.D.Disk.is_honest l.disk → Appends (g.O.CoreOutput.contents l.fn.out) (g.O.CoreOutput.contents l.out)
      (space_bytes (g.D.Disk.contents l.fn.disk) l.space (placed_pages (take l.run-index l.runs)));
}
