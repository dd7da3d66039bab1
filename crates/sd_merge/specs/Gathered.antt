-- The pages of a source that were taken, kept as the runs of each space that has any, and the table that they make.
use Rattle.std.specs.Prelude.{◌≡◌, ◌≢◌, ℕ, ◌+◌, ◌==◌, if◌then◌else◌, List, [], ◌∷◌, map, Option, Some, None}
use Rattle.sd_areas.specs.declared.area.Area.{Area}
use Rattle.sd_image.specs.declared.header.Header.{Header}
use Rattle.sd_image.specs.declared.header.Kind.TheVariants.{PreDump, Merged}
use Rattle.sd_image.specs.declared.run.Run.{Run}
use Rattle.sd_image.specs.declared.table.SpaceTable.{SpaceTable}
use Rattle.sd_image.specs.Table.{IsTable, Listed}
use Rattle.sd_writing.specs.Entries.{entries_listed, ImageEntry, Place, data_pages, place_of_entry, last_of}
use Rattle.sd_writing.specs.Tables.{AreTables, EndBefore, TablesEntries, entries_in, listed}

-- they end after a page, or there is none
abbrev pub EndAfter : Option Place → List Listed → Type 0
EndAfter None tables = tables ≡ []
EndAfter (Some at) tables = EndBefore (at.0, at.1 + 1) tables

-- what holds of the pages that were taken, with the last of them
pub record AreCopies (spaces : List SpaceTable) (last : Option Place) : Type 0 where
  pub tables : AreTables 0 0 (listed spaces)
  pub is_last : last ≡ last_of None (entries_in spaces)
  pub ends : EndAfter last (listed spaces)

-- ---- The table of the merged image

-- the runs of the first space, if it has this number
abbrev pub front_runs : ℕ → List Listed → List Run
front_runs space [] = []
front_runs space (t ∷ tables) = if t.space == space then t.runs else []

-- the spaces after it
abbrev pub spaces_after : ℕ → List Listed → List Listed
spaces_after space [] = []
spaces_after space (t ∷ tables) = if t.space == space then tables else t ∷ tables

-- the spaces and areas of a source, each with the runs that were taken of it
abbrev pub tables_of : List Listed → List Listed → List Listed
tables_of [] taken = []
tables_of (s ∷ source) taken =
    (record { space = s.space; areas = s.areas; runs = front_runs s.space taken }) ∷ tables_of source
    (spaces_after s.space taken)

abbrev pub own_areas : Listed → ℕ × List Area
own_areas s = (s.space, s.areas)

-- Where these are all pages of a source, in its order, they make a table of a merged image, with the source's areas.
pub record RepeatsTable (source : List Listed) (entries : List ImageEntry) (header : Header)
    (tables : List Listed) : Type 0 where
  pub table : TablesEntries entries header tables
  pub areas : map own_areas tables ≡ map own_areas source

abbrev pub IsTableOf : List Listed → List ImageEntry → List Listed → Type 0
IsTableOf source entries tables = (old header : Header) → IsTable old source → old.kind ≢ PreDump
    → map place_of_entry entries ≡ map place_of_entry (entries_listed source)
    → header.kind ≡ Merged → header.parent ≡ 0 → header.pages ≡ data_pages entries
    → RepeatsTable source entries header tables
