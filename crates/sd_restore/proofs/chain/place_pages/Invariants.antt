use Rattle.std.proofs.Common.{◌++◌, [], take}
use Rattle.std.specs.List.{flat_map}
use Rattle.std.specs.Prelude.{All}
use Rattle.sd_image.specs.declared.table.SpaceTable.{SpaceTable}
use Rattle.sd_image.specs.Table.{listing_of}
use Rattle.sd_chain.specs.Chains.{IsChainOf}
use Rattle.sd_restore.specs.Mapped.{space_mapped}
use Rattle.sd_restore.specs.Placed.{ArePlaced, IsWithin, placed_pages}
use Rattle.sd_restore.proofs.chain.place_pages.Given as goal

-- the pages of the spaces so far were placed
abbrev pub invariant-loop-space : goal.invariant-loop-space
invariant-loop-space l = record {
  chain : IsChainOf l.catalog l.serial l.chain;
  runs : All IsWithin l.runs.items;
  pages : ArePlaced l.catalog l.image.header.serial ([] ++ flat_map (λ (s : SpaceTable). space_mapped (listing_of s)) (take l.space-index l.space-items)) (placed_pages l.runs.items);
}
