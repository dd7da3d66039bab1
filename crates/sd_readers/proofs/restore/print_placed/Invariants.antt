use Rattle.std.proofs.Common.{map, take}
use Rattle.std.specs.Io.KnownBytes.{Appends}
use Rattle.sd_disk.specs.Reads.{OnlyReads}
use Rattle.sd_image.specs.Table.{listing_of}
use Rattle.sd_restore.specs.Placed.{placed_pages}
use Rattle.sd_readers.specs.Texts.{placed_memory_text}
use Rattle.sd_readers.proofs.restore.print_placed.Given as goal

-- the spaces so far were only read, and are printed
abbrev pub invariant-loop-space : goal.invariant-loop-space
invariant-loop-space g l = record {
  reads : OnlyReads g.D.Disk l.fn.disk l.disk;
  printed : g.D.Disk.is_honest l.disk → Appends (g.W.Write.contents l.fn.out.writer) (g.W.Write.contents l.out.writer)
      (placed_memory_text (g.D.Disk.contents l.fn.disk) l.placed.checkpoint (map listing_of (take l.space-index l.placed.spaces.now)) (placed_pages l.placed.runs.items));
}
