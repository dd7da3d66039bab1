-- Maps of the code, seen entry by entry.
use Rattle.std.proofs.Common.{ℕ, List, map}
use Rattle.std.specs.FinMap as finmap
use Rattle.std.specs.List.Sorted.{IsStrictlySortedBy}
use Rattle.std.specs.Map.{keys_of}
use Rattle.std.specs.Ordering.{nat_cmp}
use Rattle.std.specs.BTreeMap.{BTreeMap}
use Rattle.sd_areas.specs.declared.snapshot_page.SnapshotPage.{SnapshotPage}
use Rattle.sd_areas.specs.Memory.{space_of}
use Rattle.sd_areas.specs.PlainMemory.{Space}

-- the keys rise
abbrev pub Rise : {X : Type 0} → List (ℕ × X) → Type 0
Rise es = IsStrictlySortedBy nat_cmp (keys_of es)

module _ {X Y : Type 0} (f : X → Y) where
  -- the entries as they are seen
  abbrev pub mapped : List (ℕ × X) → List (ℕ × Y)
  mapped es = map (λ e. (e.0, f e.1)) es

  abbrev pub seen : List (ℕ × X) → finmap.FinMap nat_cmp Y
  seen es = finmap.from_entries (mapped es)

-- the pages of one of a snapshot's spaces
abbrev pub pages_in : BTreeMap ℕ SnapshotPage → Space
pages_in pages = space_of pages.entries
