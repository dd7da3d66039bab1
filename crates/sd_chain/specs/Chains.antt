-- The chain of an image as a list, and pages that lie alike one after the other.
use Rattle.std.specs.Prelude.{◌≡◌, ◌↔◌, ℕ, ◌+◌, ◌*◌, ◌^◌, ◌<◌, ◌≤◌, List, Some, slice_get}
use Rattle.sd_image.specs.Table.{Listed}
use Rattle.sd_chain.specs.declared.found.Found.{Found}
use Rattle.sd_chain.specs.declared.found.Found.TheVariants as found
use Rattle.sd_chain.specs.declared.trace.Trace.{Trace}
use Rattle.sd_chain.specs.declared.trace.Trace.TheVariants as trace
use Rattle.sd_chain.specs.declared.way.Way.{Way}
use Rattle.sd_chain.specs.declared.way.Way.TheVariants as way
use Rattle.sd_chain.specs.Catalog.{Opened, Places, Names, place_of}
use Rattle.sd_chain.specs.Ways.{HasPage, LiesBySerial, BreaksBySerial, IsAbsent}

-- The chain of the image of a serial: it begins with that image, and the parent number of each image names the next
-- one, that of the last none.
pub record IsChainOf (places : Places) (serial : ℕ) (chain : List Opened) : Type 0 where
  pub first : (i : Opened) → (place_of places serial ≡ Some (Some i)) ↔ (slice_get chain 0 ≡ Some i)
  pub next : (k : ℕ) (i p : Opened) → slice_get chain k ≡ Some i
      → Names places i.header.parent p ↔ (slice_get chain (k + 1) ≡ Some p)

-- what following a page of the image of a serial comes to
pub record IsTraced (places : Places) (serial : ℕ) (page : ℕ × ℕ) (answer : Trace) : Type 0 where
  pub found : (there : Found) → (answer ≡ trace.Found there) ↔ LiesBySerial places serial page there
  pub broken : (slot : ℕ) → (answer ≡ trace.Broken slot) ↔ BreaksBySerial places serial page slot
  pub absent : (answer ≡ trace.Absent) ↔ IsAbsent places serial page

-- so many pages after a place: as many times 4,096 bytes after it in the same file, or zeros too
abbrev pub found_on : Found → ℕ → Found
found_on found.Zero k = found.Zero
found_on (found.Data slot offset) k = found.Data slot (offset + 4096 * k)

-- so many pages from a place on end below the byte 2^52 of their file
abbrev pub AreBelowLimit : Found → ℕ → Type 0
AreBelowLimit found.Zero count = Unit {0}
AreBelowLimit (found.Data slot offset) count = offset + 4096 * count ≤ 2 ^ 52

-- what following the page comes to that is so many pages after one, where they lie alike
abbrev pub trace_on : Trace → ℕ → Trace
trace_on (trace.Found there) k = trace.Found (found_on there k)
trace_on (trace.Broken slot) k = trace.Broken slot
trace_on trace.Absent k = trace.Absent

-- the way of the page that is so many pages after one, where a table has them alike
abbrev pub way_on : Way → ℕ → Way
way_on (way.Data place) k = way.Data (place + k)
way_on way.Parent k = way.Parent
way_on way.Zero k = way.Zero

-- a table has a page in this way, and as many after it alike
pub record AreAlike (spaces : List Listed) (page : ℕ × ℕ) (w : Way) (count : ℕ) : Type 0 where
  pub some : 0 < count
  pub each : (k : ℕ) → k < count → HasPage spaces (page.0, page.1 + k) (way_on w k)
