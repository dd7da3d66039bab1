-- The pages of areas that are still to be met by runs.
use Rattle.std.specs.Prelude.{ℕ, List, ◌++◌}
use Rattle.std.specs.List.{flat_map}
use Rattle.sd_areas.specs.Areas.{area_pages}
use Rattle.sd_areas.specs.Pages.{pages_from}
use Rattle.sd_image.specs.declared.coverage.PagesLeft.{PagesLeft}

-- what is left of an area, and the pages of the areas after it
abbrev pub pages_left : PagesLeft → List ℕ
pages_left left = pages_from left.first left.count ++ flat_map area_pages left.areas.now
