-- What entries change of a memory, kept beside it: the memory that they make is the one below with the changes over it.
use Rattle.std.specs.Prelude.{◌≡◌, ℕ, List, [], ◌∷◌, map, Option, Some, None}
use Rattle.std.specs.Option.{option_map}
use Rattle.std.specs.BTreeMap.{BTreeMap, is_at}
use Rattle.std.specs.FinMap as finmap
use Rattle.std.specs.Map.{lookup}
use Rattle.std.specs.Ordering.{nat_cmp}
use Rattle.sd_areas.specs.declared.snapshot_page.SnapshotPage.{SnapshotPage}
use Rattle.sd_areas.specs.Memory.{page_of_snapshot}
use Rattle.sd_areas.specs.PlainMemory.{Page, Space, PlainMemory}
use Rattle.sd_pagetable.specs.Nested.{Table, inside}

-- the pages of a space that were touched: with what they have now, or unmapped
abbrev pub PageChanges : Type 0
PageChanges = List (ℕ × Option SnapshotPage)

-- the same by page number
unfoldable pub changes_of : PageChanges → Table (Option Page)
changes_of changes = finmap.from_entries (map (λ change. (change.0, option_map page_of_snapshot change.1)) changes)

-- a page has this, or is unmapped, and every other page is as before
abbrev pub with_page : Space → ℕ → Option Page → Space
with_page pages page None = finmap.remove pages page
with_page pages page (Some found) = finmap.insert pages page found

-- the pages of a space with changes over them
abbrev pub pages_over : PageChanges → Space → Space
pages_over [] pages = pages
pages_over (change ∷ changes) pages =
    with_page (pages_over changes pages) change.0 (option_map page_of_snapshot change.1)

-- what stands, or else the other
abbrev pub or_else : {X : Type 0} → Option X → Option X → Option X
or_else None other = other
or_else (Some x) other = Some x

-- each page that wasn't touched, of those that are given, is touched now: it has what `fill` makes of it
abbrev pub IsFilled : (SnapshotPage → Option Page) → List (ℕ × SnapshotPage) → PageChanges → PageChanges → Type 0
IsFilled fill pages old new = (page : ℕ) → finmap.get (changes_of new) page
    ≡ or_else (finmap.get (changes_of old) page) (option_map fill (lookup (is_at (nat_cmp page)) pages))

-- the spaces that were touched: with what was changed of their pages, or gone
abbrev pub Layers : Type 0
Layers = List (ℕ × Option (BTreeMap ℕ (Option SnapshotPage)))

-- a space has these pages, or is gone, and every other space is as before
abbrev pub with_space : PlainMemory → ℕ → Option Space → PlainMemory
with_space memory space None = finmap.remove memory space
with_space memory space (Some pages) = finmap.insert memory space pages

-- a memory with changes over it
abbrev pub memory_over : Layers → PlainMemory → PlainMemory
memory_over [] memory = memory
memory_over (layer ∷ layers) memory =
    with_space (memory_over layers memory) layer.0
    (option_map (λ changes. pages_over changes.entries (inside memory layer.0)) layer.1)
