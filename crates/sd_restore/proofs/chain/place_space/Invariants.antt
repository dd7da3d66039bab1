use Rattle.std.proofs.Common.{◌≡◌, List, ◌++◌, take}
use Rattle.std.specs.List.{flat_map}
use Rattle.std.specs.Prelude.{All}
use Rattle.sd_restore.specs.Mapped.{Mapped, area_mapped}
use Rattle.sd_restore.specs.Placed.{ArePlaced, IsWithin, placed_pages}
use Rattle.sd_restore.proofs.chain.place_space.Given as goal

-- the pages of the areas so far were placed
abbrev pub invariant-loop-area : goal.invariant-loop-area
invariant-loop-area l = record {
  chain : l.chain ≡ l.fn.chain;
  runs : All IsWithin l.fn.runs.items → All IsWithin l.runs.items;
  pages : (done : List Mapped) → ArePlaced l.catalog l.serial done (placed_pages l.fn.runs.items)
      → ArePlaced l.catalog l.serial (done ++ flat_map (area_mapped l.space.space) (take l.area-index l.space.areas.items)) (placed_pages l.runs.items);
}
