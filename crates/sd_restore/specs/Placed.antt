-- Where the pages of an image lie, and the memory that they make.
use Rattle.std.specs.Prelude.{◌≡◌, ℕ, ◌+◌, ◌^◌, ◌<◌, ◌≤◌, ◌==◌, ◌∷◌, List, [], map, filter, All, Some, None}
use Rattle.std.specs.FinMap as finmap
use Rattle.std.specs.List.{flat_map}
use Rattle.sd_areas.specs.declared.prot.Prot.{Prot}
use Rattle.sd_areas.specs.Pages.{pages_from}
use Rattle.sd_areas.specs.PlainMemory.{Page, PlainMemory, Space}
use Rattle.sd_areas.specs.declared.area.Area.{Area}
use Rattle.sd_areas.specs.Areas.{areas_of}
use Rattle.sd_restore.specs.Fits.{prots_in}
use Rattle.sd_areas.specs.Memory.{put_page}
use Rattle.sd_image.specs.Image.{Image, OpenImages}
use Rattle.sd_image.specs.Table.{Listed}
use Rattle.sd_chain.specs.declared.found.Found.{Found}
use Rattle.sd_chain.specs.declared.found.Found.TheVariants as found
use Rattle.sd_chain.specs.Catalog.{Places}
use Rattle.sd_chain.specs.Chains.{AreBelowLimit, found_on}
use Rattle.sd_chain.specs.Store.{IsCatalogOf, IsInFile, FindsHeld, bytes_at}
use Rattle.sd_chain.specs.Ways.{LiesBySerial}
use Rattle.sd_restore.specs.declared.placed_run.PlacedRun.{PlacedRun}
use Rattle.sd_image.specs.declared.reason.Reason.{Reason}
use Rattle.sd_restore.specs.Faulty.{IsFirstBreak}
use Rattle.sd_restore.specs.Mapped.{Mapped}

-- a mapped page of an image, and where its bytes are
pub record PlacedPage : Type 0 where
  pub space : ℕ
  pub page : ℕ
  pub prot : Prot
  pub there : Found

-- the page of a run that is so many after its first
abbrev pub page_of_run : PlacedRun → ℕ → PlacedPage
page_of_run r k = record { space = r.space; page = r.first + k; prot = r.prot; there = found_on r.there k }

-- the pages of a run, each with where its bytes are found
abbrev pub pages_in : PlacedRun → List PlacedPage
pages_in r = map (page_of_run r) (pages_from 0 r.count)

-- the pages of these runs, each with where its bytes are found
abbrev pub placed_pages : List PlacedRun → List PlacedPage
placed_pages = flat_map pages_in

-- it has pages, all of them in a space, and their bytes end below the byte 2^52 of their file
pub record IsWithin (r : PlacedRun) : Type 0 where
  pub some : 0 < r.count
  pub pages : r.first + r.count ≤ 2 ^ 35
  pub bytes : AreBelowLimit r.there r.count

abbrev pub mapped_of : PlacedPage → Mapped
mapped_of p = record { space = p.space; page = p.page; prot = p.prot }

-- the chain of the image of a serial has a page there, whatever files the catalog is of
pub record IsFoundAt (places : Places) (serial : ℕ) (page : ℕ × ℕ) (there : Found) : Type 0 where
  pub lies : LiesBySerial places serial page there
  pub held : (contents : List (List ℕ)) (images : List Image) → IsCatalogOf contents places → OpenImages contents images
      → FindsHeld contents images serial page (Some there)
  pub inside : (contents : List (List ℕ)) → IsCatalogOf contents places → IsInFile contents there

abbrev pub IsPlaced : Places → ℕ → PlacedPage → Type 0
IsPlaced places serial p = IsFoundAt places serial (p.space, p.page) p.there

-- these mapped pages were found
pub record ArePlaced (places : Places) (serial : ℕ) (mapped : List Mapped) (pages : List PlacedPage) : Type 0 where
  pub are : map mapped_of pages ≡ mapped
  pub each : All (IsPlaced places serial) pages

-- the image of a serial holds nothing at a page, whatever files the catalog is of
abbrev pub IsUnheld : Places → ℕ → ℕ × ℕ → Type 0
IsUnheld places serial page =
    (contents : List (List ℕ)) (images : List Image) → IsCatalogOf contents places → OpenImages contents images
    → FindsHeld contents images serial page None

-- of these mapped pages the first whose chain breaks was met, and it isn't held
pub record MeetsBreak (places : Places) (serial : ℕ) (pages : List Mapped) (slot : ℕ) (reason : Reason) : Type 0 where
  pub first : IsFirstBreak places serial pages slot reason
  pub unheld : IsUnheld places serial (first.page.space, first.page.page)

-- what lies there is in one of so many slots
abbrev pub IsInSlots : ℕ → Found → Type 0
IsInSlots count found.Zero = Unit {0}
IsInSlots count (found.Data slot offset) = slot < count

-- The memory of living spaces with these pages.

abbrev pub placed_page : List (List ℕ) → PlacedPage → Page
placed_page contents p = record { prot = p.prot; bytes = bytes_at contents p.there }

-- spaces without pages are added
abbrev pub with_spaces : PlainMemory → List Listed → PlainMemory
with_spaces memory [] = memory
with_spaces memory (s ∷ spaces) = with_spaces (finmap.insert memory s.space finmap.empty) spaces

-- pages are put
abbrev pub with_pages : List (List ℕ) → PlainMemory → List PlacedPage → PlainMemory
with_pages contents memory [] = memory
with_pages contents memory (p ∷ pages) =
    with_pages contents (put_page memory p.space p.page (placed_page contents p)) pages

abbrev pub placed_memory : List (List ℕ) → List Listed → List PlacedPage → PlainMemory
placed_memory contents spaces = with_pages contents (with_spaces finmap.empty spaces)

-- The entries of that memory.

-- the pages of one space, among others
abbrev pub placed_entries : List (List ℕ) → ℕ → List PlacedPage → List (ℕ × Page)
placed_entries contents space pages =
    map (λ (p : PlacedPage). (p.page, placed_page contents p)) (filter (λ (p : PlacedPage). p.space == space) pages)

-- a space's number, its areas and its pages
abbrev pub SpaceEntry : Type 0
SpaceEntry = ℕ × (List Area × List (ℕ × Page))

-- a memory has these spaces with their areas, rising, and in each space these pages, rising
abbrev pub IsLaidOut : List (List ℕ) → List Listed → List PlacedPage → PlainMemory → Type 0
IsLaidOut contents spaces pages memory =
    map {B = SpaceEntry} (λ (e : ℕ × Space). (e.0, (areas_of (prots_in e.1), finmap.entries e.1)))
    (finmap.entries memory)
    ≡ map {B = SpaceEntry} (λ (s : Listed). (s.space, (s.areas, placed_entries contents s.space pages))) spaces
