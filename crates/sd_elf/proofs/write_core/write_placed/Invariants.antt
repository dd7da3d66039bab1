use Rattle.std.proofs.Common.{◌≡◌, map, take}
use Rattle.sd_disk.specs.Reads.{OnlyReads}
use Rattle.sd_image.specs.Table.{listing_of}
use Rattle.sd_restore.specs.Placed.{placed_pages}
use Rattle.sd_elf.specs.Files.{TakesFiles, placed_cores}
use Rattle.sd_elf.proofs.write_core.write_placed.Given as goal

-- the disk was only read, and the files of the spaces so far that are asked for were taken
abbrev pub invariant-loop-space : goal.invariant-loop-space
invariant-loop-space g l = record {
  reads : OnlyReads g.D.Disk l.fn.disk l.disk;
  same : g.S.CoreFiles.wanted l.files ≡ g.S.CoreFiles.wanted l.fn.files;
  taken : g.D.Disk.is_honest l.disk → TakesFiles (g.S.CoreFiles.taken l.fn.files) (g.S.CoreFiles.taken l.files)
      (placed_cores l.threads (g.S.CoreFiles.wanted l.fn.files) (g.D.Disk.contents l.fn.disk) l.placed.checkpoint (placed_pages l.placed.runs.items)
      (map listing_of (take l.space-index l.placed.spaces.now)));
}
