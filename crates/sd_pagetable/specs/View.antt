-- How frames and entries are seen as the contents of a memory.
use Rattle.std.specs.Prelude.{◌≡◌, ℕ, ◌<◌, Some}
use Rattle.std.specs.Option.{option_map}
use Rattle.sd_tables.specs.declared.entry.Entry.{Entry}
use Rattle.sd_pagetable.specs.Nested.{Nested, map_values}
use Rattle.sd_pagetable.specs.Page.{PageState}
use Rattle.sd_frames.specs.Frames.{Pool, Cell, cell_at, count_at, frame_bytes}
use Rattle.sd_pagetable.specs.Contents.{Contents, page_at, members, IsSound, page_count}

-- an entry with its frame, as a page; the class is the frame's number
abbrev pub page_of_entry : Pool → Entry → PageState
page_of_entry pool entry = record {
  prot = entry.prot;
  bytes = frame_bytes pool entry.frame;
  class = entry.frame;
  writable = entry.writable;
  soft_dirty = entry.soft_dirty;
}

-- the entry of a page
abbrev pub entry_of : PageState → Entry
entry_of page = record { prot = page.prot; frame = page.class; writable = page.writable; soft_dirty = page.soft_dirty }

-- a page is mapped, with this entry
abbrev pub HasEntry : Contents → ℕ → ℕ → Entry → Type 0
HasEntry contents space number entry = option_map entry_of (page_at contents space number) ≡ Some entry

abbrev pub contents_of : Pool → Nested Entry → Contents
contents_of pool tables = record { pool = pool.size; spaces = map_values (map_values (page_of_entry pool)) tables }

-- the frames' counts are those of the entries, and the contents are sound
pub record IsKept (pool : Pool) (tables : Nested Entry) (count : ℕ) : Type 0 where
  pub sound : IsSound (contents_of pool tables)
  pub counts : (frame : ℕ) → count_at pool frame ≡ members (contents_of pool tables) frame
  pub used : (frame : ℕ) (cell : Cell) → cell_at pool frame ≡ Some cell → 0 < cell.count
  pub mapped : count ≡ page_count (contents_of pool tables).spaces
