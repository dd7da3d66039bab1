use Rattle.std.proofs.Common.{◌≡◌, ◌≤◌, ◌-◌, List, ◌++◌}
use Rattle.std.specs.Prelude.{All}
use Rattle.sd_areas.specs.Pages.{pages_from}
use Rattle.sd_restore.specs.Mapped.{Mapped, mapped_with}
use Rattle.sd_restore.specs.Placed.{ArePlaced, IsWithin, placed_pages}
use Rattle.sd_restore.proofs.chain.place_area.Given as goal

-- so many pages were placed
abbrev pub invariant-loop-placed : goal.invariant-loop-placed
invariant-loop-placed l = record {
  within : l.placed ≤ l.area.count;
  chain : l.chain ≡ l.fn.chain;
  runs : All IsWithin l.fn.runs.items → All IsWithin l.runs.items;
  pages : (done : List Mapped) → ArePlaced l.catalog l.serial done (placed_pages l.fn.runs.items)
      → ArePlaced l.catalog l.serial (done ++ mapped_with l.space l.area (pages_from l.area.first l.placed)) (placed_pages l.runs.items);
}

abbrev pub decreases-loop-placed : goal.decreases-loop-placed
decreases-loop-placed l = l.area.count - l.placed
