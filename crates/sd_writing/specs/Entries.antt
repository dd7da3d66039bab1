-- The entries of an image in the making: its pages, each in its way.
use Rattle.std.specs.Prelude.{◌≡◌, ℕ, Bool, ◌==◌, List, [], ◌∷◌, length, map, filter, Option, Some}
use Rattle.std.specs.List.{flat_map}
use Rattle.sd_image.specs.declared.run.Run.{Run}
use Rattle.sd_image.specs.declared.run.RunKind.{RunKind}
use Rattle.sd_image.specs.declared.run.RunKind.TheVariants.{Data}
use Rattle.sd_image.specs.Shows.{pages_of}
use Rattle.sd_image.specs.Table.{Listed, run_pages}
use Rattle.sd_image.specs.Words.{run_kind_number}

-- a page: its space, and its number there
abbrev pub Place : Type 0
Place = ℕ × ℕ

-- a page that an image has, and in which way
pub record ImageEntry : Type 0 where
  pub place : Place
  pub kind : RunKind

-- the space and page of an entry
abbrev pub place_of_entry : ImageEntry → Place
place_of_entry entry = entry.place

abbrev pub has_kind : RunKind → ImageEntry → Bool
has_kind kind entry = run_kind_number entry.kind == run_kind_number kind

-- the pages that entries have in one way, in their order
abbrev pub pages_by : RunKind → List ImageEntry → List Place
pages_by kind entries = map place_of_entry (filter (has_kind kind) entries)

-- how many data pages stand in the file
abbrev pub data_pages : List ImageEntry → ℕ
data_pages entries = length (pages_by Data entries)

-- the last page that has an entry
abbrev pub last_of : Option Place → List ImageEntry → Option Place
last_of before [] = before
last_of before (entry ∷ entries) = last_of (Some entry.place) entries

-- the entries of a run of a space
abbrev pub run_entries : ℕ → Run → List ImageEntry
run_entries space run = map (λ page. record { place = (space, page); kind = run.kind }) (run_pages run)

-- the entries of a table
abbrev pub entries_listed : List Listed → List ImageEntry
entries_listed = flat_map (λ (s : Listed). flat_map (run_entries s.space) s.runs)

-- a table has the pages of the entries, in their order, each in its way
abbrev pub Lists : List ImageEntry → List Listed → Type 0
Lists entries spaces = (kind : RunKind) → pages_of kind spaces ≡ pages_by kind entries
