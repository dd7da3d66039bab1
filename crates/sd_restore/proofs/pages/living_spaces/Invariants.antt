use Rattle.std.proofs.Common.{◌≡◌, map, take}
use Rattle.std.specs.FinMap as finmap
use Rattle.sd_areas.specs.Memory.{memory_of}
use Rattle.sd_image.specs.Table.{listing_of}
use Rattle.sd_restore.specs.Placed.{with_spaces}
use Rattle.sd_restore.proofs.pages.living_spaces.Given as goal

-- the spaces so far were added
abbrev pub invariant-loop-space : goal.invariant-loop-space
invariant-loop-space l = record {
  spaces : memory_of l.snapshot ≡ with_spaces finmap.empty (map listing_of (take l.space-index l.space-items));
  checkpoint : l.snapshot.checkpoint ≡ l.tip.header.checkpoint;
}
