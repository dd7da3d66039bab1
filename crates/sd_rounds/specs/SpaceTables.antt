-- The table of a dump, from the areas of a memory and the runs of a pass.
use Rattle.std.specs.Prelude.{◌≡◌, ℕ, ◌<◌, ◌≤◌, ◌==◌, if◌then◌else◌, List, [], ◌∷◌, length, false, None}
use Rattle.std.specs.List.{list_any, AllByRecursion}
use Rattle.std.specs.Option.{option_map}
use Rattle.std.specs.FinMap as finmap
use Rattle.sd_areas.specs.Areas.{prot_in, AreMaximal}
use Rattle.sd_areas.specs.PlainMemory.{Page, PlainMemory}
use Rattle.sd_image.specs.declared.run.Run.{Run}
use Rattle.sd_image.specs.Shows.{page_in}
use Rattle.sd_image.specs.Table.{Listed, mapped_count}

-- the runs of a space
abbrev pub space_runs : List Listed → ℕ → List Run
space_runs [] space = []
space_runs (t ∷ tables) space = if t.space == space then t.runs else space_runs tables space

-- without areas
abbrev pub without_areas : Listed → Listed
without_areas t = record { space = t.space; areas = []; runs = t.runs }

-- a space of a memory with its areas, and the runs that other tables have of it
pub record IsSpaceOf (memory : PlainMemory) (source : List Listed) (t : Listed) : Type 0 where
  pub within : t.space ≤ 16
  pub few : length t.areas ≤ 1024
  pub maximal : AreMaximal None t.areas
  pub same : (page : ℕ) → prot_in t.areas page ≡ option_map (λ (found : Page). found.prot) (page_in memory t.space page)
  pub runs : t.runs ≡ space_runs source t.space

-- each space may be alive
abbrev pub AreLow : List Listed → Type 0
AreLow = AllByRecursion (λ (t : Listed). t.space ≤ 16)

-- the spaces rise, above a number
abbrev pub Rise : ℕ → List Listed → Type 0
Rise before [] = Unit {0}
Rise before (t ∷ tables) = (before < t.space) × Rise t.space tables

-- the living spaces below a number
pub record AreSpacesBelow (number : ℕ) (memory : PlainMemory) (source tables : List Listed) : Type 0 where
  pub rise : Rise 0 tables
  pub below : AllByRecursion (λ (t : Listed). t.space < number) tables
  pub each : AllByRecursion (IsSpaceOf memory source) tables
  pub alive : (space : ℕ) → space < number
      → finmap.contains_key memory space ≡ list_any (λ (t : Listed). t.space == space) tables

-- all living spaces, with at most 65,536 pages
pub record AreAllSpaces (memory : PlainMemory) (source tables : List Listed) : Type 0 where
  pub all : AreSpacesBelow 17 memory source tables
  pub alive : (space : ℕ) → 17 ≤ space → finmap.contains_key memory space ≡ false
  pub few : mapped_count tables ≤ 65536
