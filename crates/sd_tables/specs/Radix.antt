-- A page table as a tree of tables of 512 places.
use Rattle.std.specs.Prelude.{◌≡◌, ℕ, ◌+◌, ◌*◌, ◌/◌, ◌%◌, ◌<◌, ◌≤◌, ◌==◌, Bool, true, false, List, length, slice_index}
use Rattle.std.specs.Prelude.{Option, Some, None, is_some, IsSome, if◌then◌else◌}
use Rattle.std.specs.List.{slice_get, filter_map}
use Rattle.std.specs.Option.{option_map, option_and_then, ForSome}
use Rattle.std.specs.Int.{bit_at}
use Rattle.std.specs.FinMap as finmap
use Rattle.sd_areas.specs.Pages.{pages_from}
use Rattle.sd_tables.specs.Tables.{Table}
use Rattle.sd_tables.specs.declared.entry.Entry.{Entry}
use Rattle.sd_tables.specs.declared.leaf_entry.LeafEntry.{LeafEntry}

-- whether the bit of a place is set: bit b of word w is that of place 64 w + b
abbrev pub is_used : List ℕ → ℕ → Bool
is_used words place = bit_at (slice_index words (place / 64)) (place % 64) == 1

-- the first used place from one on, below 512
abbrev pub IsNextUsed : List ℕ → ℕ → Option ℕ → Type 0
IsNextUsed words from None = (place : ℕ) → from ≤ place → is_used words place ≡ false
IsNextUsed words from (Some next) = (from ≤ next) × (next < 512) × (is_used words next ≡ true)
    × ((place : ℕ) → from ≤ place → place < next → is_used words place ≡ false)

-- the first used place from one on, among the 64 places of a word
abbrev pub IsNextInWord : List ℕ → ℕ → ℕ → Option ℕ → Type 0
IsNextInWord words word from None = (place : ℕ) → from ≤ place → place / 64 ≡ word → is_used words place ≡ false
IsNextInWord words word from (Some next) = (from ≤ next) × (next / 64 ≡ word) × (is_used words next ≡ true)
    × ((place : ℕ) → from ≤ place → place < next → place / 64 ≡ word → is_used words place ≡ false)

-- the places from one on, up to another, are used
abbrev pub IsUsedTo : List ℕ → ℕ → ℕ → Type 0
IsUsedTo words from to = (place : ℕ) → from ≤ place → place < to → is_used words place ≡ true

-- the first place from one on that isn't used, among the 64 places of a word
abbrev pub IsHoleInWord : List ℕ → ℕ → ℕ → Option ℕ → Type 0
IsHoleInWord words word from None = (place : ℕ) → from ≤ place → place / 64 ≡ word → is_used words place ≡ true
IsHoleInWord words word from (Some hole) = (from ≤ hole) × (hole / 64 ≡ word)
    × ((place : ℕ) → from ≤ place → place < hole → place / 64 ≡ word → is_used words place ≡ true)

-- the first bit of a word whose place isn't before another
abbrev pub IsFirstBitOf : ℕ → ℕ → ℕ → Type 0
IsFirstBitOf word from bit =
    (from ≤ word * 64 + bit) × ((place : ℕ) → from ≤ place → place / 64 ≡ word → bit ≤ place % 64)

-- the first set bit of a word from one on, below 64
abbrev pub IsNextBit : ℕ → ℕ → Option ℕ → Type 0
IsNextBit word from None = (bit : ℕ) → from ≤ bit → bit_at word bit ≡ 0
IsNextBit word from (Some next) = (from ≤ next) × (next < 64) × (bit_at word next ≡ 1)
    × ((bit : ℕ) → from ≤ bit → bit < next → bit_at word bit ≡ 0)

-- the first bit of a word from one on that isn't set, below 64
abbrev pub IsNextClearBit : ℕ → ℕ → Option ℕ → Type 0
IsNextClearBit word from None = (bit : ℕ) → from ≤ bit → bit < 64 → bit_at word bit ≡ 1
IsNextClearBit word from (Some next) = (from ≤ next) × (next < 64)
    × ((bit : ℕ) → from ≤ bit → bit < next → bit_at word bit ≡ 1)

-- an entry of a leaf
abbrev pub entry_in : LeafEntry → Entry
entry_in e = record {
  prot = e.prot;
  frame = if e.framed then Some e.frame
      else None;
  writable = e.writable;
  soft_dirty = e.soft_dirty;
}

-- what a leaf has at a page
abbrev pub leaf_at : List ℕ → List LeafEntry → ℕ → Option Entry
leaf_at words entries page = if is_used words page then option_map entry_in (slice_get entries page) else None

-- what a place for a table has at a page of that
abbrev pub slot_at : {X : Type 0} → (X → ℕ → Option Entry) → Option X → ℕ → Option Entry
slot_at at slot page = option_and_then (λ table. at table page) slot

-- the table in a place
abbrev pub inner_table : {X : Type 0} → List (Option X) → ℕ → Option X
inner_table tables place = option_and_then (λ table. table) (slice_get tables place)

-- what a table above the lowest level has at a page, where each table below spans so many pages
abbrev pub level_at : {X : Type 0} → (X → ℕ → Option Entry) → ℕ → List (Option X) → ℕ → Option Entry
level_at at span tables page = slot_at at (inner_table tables (page / span)) (page % span)

-- some page below a limit is mapped
abbrev pub HasMappedPage : ℕ → (ℕ → Option Entry) → Type 0
HasMappedPage limit at = (page : ℕ) × (page < limit) × IsSome (at page)

-- the first mapped page from one on, below a limit, with its entry
abbrev pub IsFirstAt : ℕ → (ℕ → Option Entry) → ℕ → Option (ℕ × Entry) → Type 0
IsFirstAt limit at from None = (page : ℕ) → from ≤ page → at page ≡ None
IsFirstAt limit at from (Some first) = (from ≤ first.0) × (first.0 < limit) × (at first.0 ≡ Some first.1)
    × ((page : ℕ) → from ≤ page → page < first.0 → at page ≡ None)

-- the first mapped page from one on, among those of the table in a place, with its entry; that one counts from the
-- table's first page
abbrev pub IsFirstInTable : ℕ → (ℕ → Option Entry) → ℕ → ℕ → Option (ℕ × Entry) → Type 0
IsFirstInTable span at place from None = (page : ℕ) → page / span ≡ place → from ≤ page % span → at page ≡ None
IsFirstInTable span at place from (Some first) = (first.0 / span ≡ place) × (from ≤ first.0 % span)
    × (at first.0 ≡ Some first.1)
    × ((page : ℕ) → page / span ≡ place → from ≤ page % span → page < first.0 → at page ≡ None)

-- a place has no table, or one that is kept and has a page
abbrev pub IsSlot : {X : Type 0} → (X → ℕ → Option Entry) → (X → Type 0) → ℕ → Option X → Type 0
IsSlot at IsKept span slot = ForSome slot (λ table. IsKept table × HasMappedPage span (at table))

-- a table above the lowest level has 512 places; its bits say which have a table
pub record IsLevel {X : Type 0} (at : X → ℕ → Option Entry) (IsKept : X → Type 0) (span : ℕ) (words : List ℕ)
    (tables : List (Option X)) : Type 0 where
  pub places : length tables ≡ 512
  pub used : (place : ℕ) → is_used words place ≡ is_some (inner_table tables place)
  pub slots : (place : ℕ) → IsSlot at IsKept span (inner_table tables place)

-- the table that has at each page below a limit what a function says
unfoldable pub table_of : ℕ → (ℕ → Option Entry) → Table Entry
table_of limit at =
    finmap.from_entries (filter_map (λ page. option_map (λ entry. (page, entry)) (at page)) (pages_from 0 limit))
