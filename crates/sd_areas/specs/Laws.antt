-- What holds of address spaces, in words that name no fold and no loop.
use Rattle.std.specs.Prelude.{◌≡◌, ◌↔◌, ℕ, ◌<◌, if◌then◌else◌, List, length, sum_by, Some, None, Ok, Err, IsSome}
use Rattle.std.specs.Prelude.{IsTrue}
use Rattle.std.specs.FinMap as finmap
use Rattle.std.specs.Option.{option_map}
use Rattle.std.specs.Ordering.{nat_cmp}
use Rattle.std.specs.Map.{lookup}
use Rattle.std.specs.BTreeMap.{BTreeMap, is_at}
use Rattle.sd_areas.specs.declared.snapshot.Snapshot.{Snapshot}
use Rattle.sd_areas.specs.declared.snapshot_page.SnapshotPage.{SnapshotPage}
use Rattle.sd_areas.specs.Memory.{memory_of, space_of, page_of_snapshot}
use Rattle.sd_areas.specs.declared.area.Area.{Area}
use Rattle.sd_areas.specs.declared.prot.Prot.{Prot}
use Rattle.sd_areas.specs.declared.errno.Errno.TheVariants.{Enomem}
use Rattle.sd_areas.specs.Pages.{page_of, pages_for, is_within}
use Rattle.sd_areas.specs.Areas.{PageMap, AreAreasOf, AreInSpace, areas_of}
use Rattle.sd_areas.specs.Calls.{within_areas, map_result, unmap_result, protect_result}

-- what `areas_of` makes of a space are its areas: they rise, are maximal, and give each page its permissions
abbrev pub AreasLaw : Type 0
AreasLaw = (pages : PageMap) → AreInSpace pages → AreAreasOf pages (areas_of pages)

-- and no other list is
abbrev pub OneListLaw : Type 0
OneListLaw = (pages : PageMap) (one other : List Area) → AreAreasOf pages one → AreAreasOf pages other → one ≡ other

-- the areas have as many pages as are mapped
abbrev pub CountLaw : Type 0
CountLaw = (pages : PageMap) (areas : List Area) → AreAreasOf pages areas
    → sum_by (λ (area : Area). area.count) areas ≡ finmap.len pages

-- a space with more areas than it may have
abbrev pub IsCrowded : PageMap → Type 0
IsCrowded pages = (areas : List Area) × AreAreasOf pages areas × (1024 < length areas)

-- only a crowded space is past the limit
abbrev pub LimitLaw : Type 0
LimitLaw = (pages : PageMap) → AreInSpace pages → (within_areas pages ≡ Err Enomem) ↔ IsCrowded pages

-- `mmap` gives each whole page of the range the permissions, and leaves every other page
abbrev pub MappedLaw : Type 0
MappedLaw =
    (before after : PageMap) (address bytes : ℕ) (prot : Prot) → map_result before address bytes prot ≡ Ok after →
    (page : ℕ)
    → finmap.get after page
    ≡ (if is_within (page_of address) (pages_for bytes) page then Some prot else finmap.get before page)

-- `munmap` removes each whole page of the range, and leaves every other page
abbrev pub UnmappedLaw : Type 0
UnmappedLaw = (before after : PageMap) (address bytes : ℕ) → unmap_result before address bytes ≡ Ok after →
    (page : ℕ)
    → finmap.get after page
    ≡ (if is_within (page_of address) (pages_for bytes) page then None else finmap.get before page)

-- `mprotect` does as `mmap`, where every page of the range was mapped
abbrev pub ProtectedLaw : Type 0
ProtectedLaw =
    (before after : PageMap) (address bytes : ℕ) (prot : Prot) → protect_result before address bytes prot ≡ Ok after →
    (page : ℕ)
    → (finmap.get after page
    ≡ (if is_within (page_of address) (pages_for bytes) page then Some prot else finmap.get before page))
    × (IsTrue (is_within (page_of address) (pages_for bytes) page) → IsSome (finmap.get before page))

-- a space is in the memory where the snapshot has it, with a page where that space has it
abbrev pub MemoryLaw : Type 0
MemoryLaw = (snapshot : Snapshot) (space page : ℕ) →
    (finmap.get (memory_of snapshot) space
    ≡ option_map (λ pages. space_of pages.entries) (lookup (is_at (nat_cmp space)) snapshot.spaces.entries))
    × ((pages : BTreeMap ℕ SnapshotPage)
    → finmap.get (space_of pages.entries) page
    ≡ option_map page_of_snapshot (lookup (is_at (nat_cmp page)) pages.entries))
