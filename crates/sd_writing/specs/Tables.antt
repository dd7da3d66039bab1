-- The entries of an image, kept as the runs of each space that has any.
use Rattle.std.specs.Prelude.{◌≡◌, ◌≢◌, ◌⊎◌, ℕ, ◌+◌, ◌<◌, ◌≤◌, List, [], ◌∷◌, ◌++◌, map, None}
use Rattle.std.specs.List.{AllByRecursion}
use Rattle.sd_image.specs.declared.header.Header.{Header}
use Rattle.sd_image.specs.declared.run.RunKind.{RunKind}
use Rattle.sd_image.specs.declared.table.SpaceTable.{SpaceTable}
use Rattle.sd_image.specs.Runs.{AreRunsOf, IsSourced, end_of}
use Rattle.sd_image.specs.Table.{AreRuns, IsTable, Listed, listing_of}
use Rattle.sd_writing.specs.Entries.{ImageEntry, Lists, Place, entries_listed}

-- the entries of a space at a number or above it: maximal runs, where the image's parent has this number
pub record IsTableFrom (parent least : ℕ) (t : Listed) : Type 0 where
  pub from : least ≤ t.space
  pub no_areas : t.areas ≡ []
  pub runs : AreRuns parent None t.runs
  pub some : t.runs ≢ []

-- spaces rising by number
abbrev pub AreTables : ℕ → ℕ → List Listed → Type 0
AreTables parent least [] = Unit {0}
AreTables parent least (t ∷ tables) = IsTableFrom parent least t × AreTables parent (t.space + 1) tables

-- a space's entries end before a place
abbrev pub EndsBefore : Place → Listed → Type 0
EndsBefore limit t = (t.space < limit.0) ⊎ ((t.space ≡ limit.0) × (end_of t.runs ≤ limit.1))

-- all runs of these tables end before a place
abbrev pub EndBefore : Place → List Listed → Type 0
EndBefore limit = AllByRecursion (EndsBefore limit)

-- as the code keeps them
abbrev pub listed : List SpaceTable → List Listed
listed = map listing_of

-- the pages of the tables of an image, each with its kind
abbrev pub entries_in : List SpaceTable → List ImageEntry
entries_in tables = entries_listed (listed tables)

-- a page was put after the entries
pub record IsPushed (parent least : ℕ) (old new : List Listed) (at : Place) (kind : RunKind) : Type 0 where
  pub entries : entries_listed new ≡ entries_listed old ++ (record { place = at; kind = kind }) ∷ []
  pub tables : AreTables parent least new
  pub ends : EndBefore (at.0, at.1 + 1) new

-- a space with one page was put after the others
pub record SpaceIsBegun (old new : List SpaceTable) (at : Place) (kind : RunKind) : Type 0 where
  pub table : SpaceTable
  pub after : new ≡ old ++ table ∷ []
  pub space : table.space ≡ at.0
  pub areas : table.areas.items ≡ []
  pub runs : (parent : ℕ) → IsSourced parent kind → AreRunsOf parent ((at.1, kind) ∷ []) table.runs.items
  pub end : end_of table.runs.items ≡ at.1 + 1

-- a table with these entries
pub record TablesEntries (entries : List ImageEntry) (header : Header) (tables : List Listed) : Type 0 where
  pub lists : Lists entries tables
  pub is : IsTable header tables
