-- The table of an image: its text, and what it has to be.
use Rattle.std.specs.Prelude.{◌≡◌, ◌≢◌, ℕ, ◌+◌, ◌<◌, ◌≤◌, ◌^◌, Bool, true, not, ◌&&◌, ◌||◌, ◌==◌, nat_lt, nat_le}
use Rattle.std.specs.Prelude.{if◌then◌else◌, IsTrue, List, [], ◌∷◌, length, sum_by, Option, Some, None}
use Rattle.std.specs.List.{concat, flat_map}
use Rattle.sd_areas.specs.declared.area.Area.{Area}
use Rattle.sd_areas.specs.Areas.{AreMaximal, area_pages}
use Rattle.sd_areas.specs.Pages.{pages_from}
use Rattle.sd_areas.specs.Prot.{prot_bits}
use Rattle.sd_image.specs.declared.header.Header.{Header}
use Rattle.sd_image.specs.declared.header.Kind.{Kind}
use Rattle.sd_image.specs.declared.header.Kind.TheVariants.{PreDump, Dump, Merged}
use Rattle.sd_image.specs.declared.run.Run.{Run}
use Rattle.sd_image.specs.declared.table.SpaceTable.{SpaceTable}
use Rattle.sd_image.specs.Words.{number_bytes, zero_bytes, run_kind_number}

-- what a table says of a space, without where it lies in memory
pub record Listed : Type 0 where
  pub space : ℕ
  pub areas : List Area
  pub runs : List Run

-- the table of a space by its lists
abbrev pub listing_of : SpaceTable → Listed
listing_of t = record { space = t.space; areas = t.areas.items; runs = t.runs.items }

-- Its text.

abbrev pub area_text : Area → List ℕ
area_text a =
    concat (number_bytes 8 a.first ∷ number_bytes 8 a.count ∷ number_bytes 4 (prot_bits a.prot) ∷ zero_bytes 4 ∷ [])

abbrev pub run_text : Run → List ℕ
run_text r =
    concat (number_bytes 8 r.first ∷ number_bytes 8 r.count ∷ number_bytes 4
    (run_kind_number r.kind) ∷ zero_bytes 4 ∷ [])

abbrev pub space_text : Listed → List ℕ
space_text s = concat (
    number_bytes 4 s.space
    ∷ number_bytes 4 (length s.areas)
    ∷ number_bytes 8 (length s.runs)
    ∷ flat_map area_text s.areas
    ∷ flat_map run_text s.runs
    ∷ [])

-- the bytes of the tables of an image
unfoldable pub table_text : List Listed → List ℕ
table_text spaces = concat (number_bytes 4 (length spaces) ∷ zero_bytes 4 ∷ flat_map space_text spaces ∷ [])

-- What it has to be.

-- a run begins after the one before it, or at its end as another kind
abbrev pub run_begins_after : Option Run → Run → Bool
run_begins_after None run = true
run_begins_after (Some before) run = nat_lt (before.first + before.count) run.first
    || (before.first + before.count == run.first && not (run_kind_number before.kind == run_kind_number run.kind))

-- a parent's run needs a parent
abbrev pub has_source : ℕ → Run → Bool
has_source parent run = not (run_kind_number run.kind == 2) || nat_lt 0 parent

-- it has pages, all of them in the space, begins after the one before, and its bytes are somewhere
abbrev pub is_run_after : ℕ → Option Run → Run → Bool
is_run_after parent before run =
    nat_lt 0 run.count && nat_le (run.first + run.count) (2 ^ 35) && run_begins_after before run
    && has_source parent run

-- a list of runs, rising and maximal
abbrev pub AreRuns : ℕ → Option Run → List Run → Type 0
AreRuns parent before [] = Unit {0}
AreRuns parent before (run ∷ runs) = IsTrue (is_run_after parent before run) × AreRuns parent (Some run) runs

-- the pages of a run
abbrev pub run_pages : Run → List ℕ
run_pages run = pages_from run.first run.count

-- the runs' pages: those of a dump and of a merged image are exactly its areas' pages; a pre-dump has no areas, and
-- lists no space without runs
abbrev pub Covers : Kind → List Area → List Run → Type 0
Covers PreDump areas runs = (areas ≡ []) × (runs ≢ [])
Covers Dump areas runs = flat_map run_pages runs ≡ flat_map area_pages areas
Covers Merged areas runs = flat_map run_pages runs ≡ flat_map area_pages areas

pub record IsSpace (h : Header) (before : ℕ) (s : Listed) : Type 0 where
  pub above : before < s.space
  pub within : s.space ≤ 16
  pub few_areas : length s.areas ≤ 1024
  pub areas : AreMaximal None s.areas
  pub runs : AreRuns h.parent None s.runs
  pub covers : Covers h.kind s.areas s.runs

-- spaces rising by number
abbrev pub AreSpaces : Header → ℕ → List Listed → Type 0
AreSpaces h before [] = Unit {0}
AreSpaces h before (s ∷ spaces) = IsSpace h before s × AreSpaces h s.space spaces

-- how many pages are mapped
abbrev pub mapped_count : List Listed → ℕ
mapped_count = sum_by (λ s. sum_by (λ (a : Area). a.count) s.areas)

-- the pages of the run are in the image
abbrev pub is_data : Run → Bool
is_data run = run_kind_number run.kind == 1

-- how many pages have their bytes in the image
abbrev pub data_count : List Listed → ℕ
data_count = sum_by (λ s. sum_by (λ (r : Run). if is_data r then r.count else 0) s.runs)

-- the tables of an image with this header
pub record IsTable (h : Header) (spaces : List Listed) : Type 0 where
  pub few : length spaces ≤ 16
  pub each : AreSpaces h 0 spaces
  pub «data» : data_count spaces ≡ h.pages
  pub mapped : mapped_count spaces ≤ 65536
