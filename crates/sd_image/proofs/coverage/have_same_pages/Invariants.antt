use Rattle.std.proofs.Common.{◌≡◌, ◌+◌, ◌<◌, ◌^◌, ◌++◌, take}
use Rattle.std.specs.List.{flat_map}
use Rattle.sd_areas.specs.Areas.{area_pages}
use Rattle.sd_image.specs.Table.{run_pages}
use Rattle.sd_image.specs.Coverage.{pages_left}
use Rattle.sd_image.proofs.coverage.have_same_pages.Given as goal

abbrev pub invariant-loop-run : goal.invariant-loop-run
invariant-loop-run l = record {
  pages : flat_map area_pages l.areas ≡ flat_map run_pages (take l.run-index l.runs) ++ pages_left l.left;
  fits : l.left.first + l.left.count < 2 ^ 65;
}
