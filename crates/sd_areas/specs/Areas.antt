-- The areas of a space: the maximal runs of pages with equal permissions.
use Rattle.std.specs.Prelude.{◌≡◌, ℕ, ◌+◌, ◌<◌, ◌^◌, Bool, true, not, ◌&&◌, ◌||◌, ◌==◌, nat_lt, nat_le, if◌then◌else◌}
use Rattle.std.specs.Prelude.{IsTrue, List, [], ◌∷◌, map, flat_map, Option, Some, None, IsSome}
use Rattle.std.specs.Ordering.{nat_cmp}
use Rattle.std.specs.FinMap as finmap
use Rattle.sd_areas.specs.declared.area.Area.{Area}
use Rattle.sd_areas.specs.declared.prot.Prot.{Prot}
use Rattle.sd_areas.specs.Pages.{pages_from, is_within}
use Rattle.sd_areas.specs.Prot.{prot_bits}

-- the permissions of each mapped page
abbrev pub PageMap : Type 0
PageMap = finmap.FinMap nat_cmp Prot

-- the pages of an area
abbrev pub area_pages : Area → List ℕ
area_pages area = pages_from area.first area.count

-- the permissions that a list of areas gives a page
abbrev pub prot_in : List Area → ℕ → Option Prot
prot_in [] page = None
prot_in (area ∷ areas) page = if is_within area.first area.count page then Some area.prot else prot_in areas page

-- an area begins after the one before it, or at its end with other permissions
abbrev pub begins_after : Option Area → Area → Bool
begins_after None area = true
begins_after (Some before) area = nat_lt (before.first + before.count) area.first
    || (before.first + before.count == area.first && not (prot_bits before.prot == prot_bits area.prot))

-- it has pages, all of them in the space, and begins after the one before
abbrev pub is_area_after : Option Area → Area → Bool
is_area_after before area = nat_lt 0 area.count && nat_le (area.first + area.count) (2 ^ 35) && begins_after before area

-- a list of areas, rising and maximal
abbrev pub AreMaximal : Option Area → List Area → Type 0
AreMaximal before [] = Unit {0}
AreMaximal before (area ∷ areas) = IsTrue (is_area_after before area) × AreMaximal (Some area) areas

-- these are the areas of a space
pub record AreAreasOf (pages : PageMap) (areas : List Area) : Type 0 where
  pub maximal : AreMaximal None areas
  pub same : (page : ℕ) → prot_in areas page ≡ finmap.get pages page

-- each page of a space has a number below 2^35
abbrev pub AreInSpace : PageMap → Type 0
AreInSpace pages = (page : ℕ) → IsSome (finmap.get pages page) → page < 2 ^ 35

-- the pages of a list of areas, each with its permissions
unfoldable pub page_map_of : List Area → PageMap
page_map_of areas = finmap.from_entries (flat_map (λ area. map (λ page. (page, area.prot)) (area_pages area)) areas)

-- a page put before the areas: it joins the first where it touches that and has its permissions
abbrev pub put_page_before : ℕ → Prot → List Area → List Area
put_page_before page prot [] = record { first = page; count = 1; prot = prot } ∷ []
put_page_before page prot (area ∷ areas) =
    if page + 1 == area.first && prot_bits prot == prot_bits area.prot
    then record { first = page; count = area.count + 1; prot = area.prot } ∷ areas
    else record { first = page; count = 1; prot = prot } ∷ area ∷ areas

-- the areas of entries whose pages rise
abbrev pub areas_of_entries : List (ℕ × Prot) → List Area
areas_of_entries [] = []
areas_of_entries (e ∷ es) = put_page_before e.0 e.1 (areas_of_entries es)

-- the areas of a space
unfoldable pub areas_of : PageMap → List Area
areas_of pages = areas_of_entries (finmap.entries pages)
