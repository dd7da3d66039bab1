-- The areas that are kept beside the pages.
use Rattle.std.specs.Prelude.{◌≡◌, ℕ}
use Rattle.std.specs.Ordering.{nat_cmp}
use Rattle.std.specs.Option.{option_map}
use Rattle.std.specs.BTreeMap.{BTreeMap, get}
use Rattle.std.specs.FinMap as finmap
use Rattle.sd_areas.specs.Areas.{PageMap}
use Rattle.sd_pagetable.specs.Nested.{Table, map_values}
use Rattle.sd_pagetable.specs.Page.{PageState}
use Rattle.sd_pagetable.specs.Contents.{Contents}

-- the permissions of a space's pages
abbrev pub prots_of : Table PageState → PageMap
prots_of pages = map_values (λ (page : PageState). page.prot) pages

-- each living space has its areas
abbrev pub HasAreas : BTreeMap ℕ PageMap → Contents → Type 0
HasAreas areas contents = (space : ℕ) → get nat_cmp areas space ≡ option_map prots_of (finmap.get contents.spaces space)
