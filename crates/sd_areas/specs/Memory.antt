-- A snapshot as the plain memory that it holds.
use Rattle.std.specs.Prelude.{ℕ, List, map, unwrap_or}
use Rattle.std.specs.FinMap as finmap
use Rattle.sd_areas.specs.declared.snapshot_page.SnapshotPage.{SnapshotPage}
use Rattle.sd_areas.specs.declared.snapshot.Snapshot.{Snapshot}
use Rattle.sd_areas.specs.Areas.{PageMap}
use Rattle.sd_areas.specs.PlainMemory.{Page, Space, PlainMemory}

-- a page's permissions and bytes
abbrev pub page_of_snapshot : SnapshotPage → Page
page_of_snapshot page = record { prot = page.prot; bytes = page.bytes.value }

-- the pages of one space
unfoldable pub space_of : List (ℕ × SnapshotPage) → Space
space_of entries = finmap.from_entries (map (λ e. (e.0, page_of_snapshot e.1)) entries)

-- the memory that a snapshot holds
unfoldable pub memory_of : Snapshot → PlainMemory
memory_of snapshot = finmap.from_entries (map (λ e. (e.0, space_of e.1.entries)) snapshot.spaces.entries)

-- the permissions of the pages of one space
unfoldable pub snapshot_prots : List (ℕ × SnapshotPage) → PageMap
snapshot_prots entries = finmap.from_entries (map (λ e. (e.0, e.1.prot)) entries)

-- a page put into a space
abbrev pub put_page : PlainMemory → ℕ → ℕ → Page → PlainMemory
put_page memory space page found =
    finmap.insert memory space (finmap.insert (unwrap_or (finmap.get memory space) finmap.empty) page found)
