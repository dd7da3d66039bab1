use Rattle.std.proofs.Common.{◌+◌, ◌<◌, ◌^◌, ◌++◌, length}
use Rattle.std.specs.List.{flat_map}
use Rattle.sd_areas.specs.Areas.{area_pages}
use Rattle.sd_areas.specs.Pages.{pages_from}
use Rattle.sd_image.specs.Table.{run_pages}
use Rattle.sd_image.specs.Coverage.{pages_left}
use Rattle.sd_image.proofs.PageLists.{IsMet}
use Rattle.sd_image.proofs.coverage.behind.Given as goal

abbrev pub invariant-loop-wanted : goal.invariant-loop-wanted
invariant-loop-wanted l = record {
  met : IsMet (pages_left l.fn.left) (run_pages l.run) (pages_from l.page l.count ++ flat_map area_pages l.areas) (pages_from l.first l.wanted);
  area_ends : l.page + l.count < 2 ^ 65;
  run_ends : l.first + l.wanted < 2 ^ 65;
}

abbrev pub decreases-loop-wanted : goal.decreases-loop-wanted
decreases-loop-wanted l = l.wanted + length l.areas
