-- The lines that a store is printed as.
use Rattle.std.specs.Prelude.{ℕ, ◌+◌, ◌*◌, ◌==◌, if◌then◌else◌, List, [], ◌∷◌, ◌++◌, codes, Option, Some, None}
use Rattle.std.specs.Prelude.{slice_range, filter}
use Rattle.std.specs.List.{flat_map, list_all, range_with_len}
use Rattle.std.specs.Fmt.{decimal}
use Rattle.std.specs.FinMap as finmap
use Rattle.hex.specs.Hex.{encode_lower}
use Rattle.sd_areas.specs.PlainMemory.{Page, Space, PlainMemory}
use Rattle.sd_procfs.specs.Listing.{address_text, area_line, listing_text}
use Rattle.sd_restore.specs.Fits.{prots_in}
use Rattle.sd_restore.specs.Placed.{PlacedPage, page_of_run}
use Rattle.sd_restore.specs.declared.placed_run.PlacedRun.{PlacedRun}
use Rattle.sd_chain.specs.Store.{bytes_at}
use Rattle.sd_image.specs.Table.{Listed}

-- What `restore` prints.

-- bytes at an address
abbrev pub line_text : ℕ → List ℕ → List ℕ
line_text address bytes = codes "bytes " ++ address_text address ++ codes " " ++ encode_lower bytes ++ 10 ∷ []

-- the same, unless they are all zeros
abbrev pub bytes_line : ℕ → List ℕ → List ℕ
bytes_line address bytes = if list_all (λ byte. byte == 0) bytes then [] else line_text address bytes

-- the line of the 32 bytes that are so many times 32 after the first of a page
abbrev pub part_text : ℕ → List ℕ → ℕ → List ℕ
part_text address bytes k = bytes_line (address + 32 * k) (slice_range bytes (32 * k) (32 * k + 32))

-- the lines of the bytes of the page at an address, rising
unfoldable pub page_text : ℕ → List ℕ → List ℕ
page_text address bytes = flat_map (part_text address bytes) (range_with_len 0 128)

-- a space: its number, its areas, and the bytes of its pages, rising
abbrev pub printed_space : ℕ → Space → List ℕ
printed_space number space = codes "space " ++ decimal number ++ 10 ∷ [] ++ listing_text (prots_in space)
    ++ flat_map (λ (entry : ℕ × Page). page_text (4096 * entry.0) entry.1.bytes) (finmap.entries space)

-- a checkpoint and its memory: its spaces, rising
abbrev pub memory_text : ℕ × PlainMemory → List ℕ
memory_text moment = codes "checkpoint " ++ decimal moment.0 ++ 10 ∷ []
    ++ flat_map (λ (entry : ℕ × Space). printed_space entry.0 entry.1) (finmap.entries moment.1)

-- The same of pages that lie in the slots of a store.

-- the lines of a page that lies there
abbrev pub placed_text : List (List ℕ) → PlacedPage → List ℕ
placed_text contents p = page_text (4096 * p.page) (bytes_at contents p.there)

-- those of the pages of one space, among others
abbrev pub placed_lines : List (List ℕ) → ℕ → List PlacedPage → List ℕ
placed_lines contents space pages =
    flat_map (placed_text contents) (filter (λ (p : PlacedPage). p.space == space) pages)

abbrev pub placed_space_text : List (List ℕ) → List PlacedPage → Listed → List ℕ
placed_space_text contents pages s =
    codes "space " ++ decimal s.space ++ 10 ∷ [] ++ flat_map area_line s.areas ++ placed_lines contents s.space pages

abbrev pub placed_memory_text : List (List ℕ) → ℕ → List Listed → List PlacedPage → List ℕ
placed_memory_text contents checkpoint spaces pages =
    codes "checkpoint " ++ decimal checkpoint ++ 10 ∷ [] ++ flat_map (placed_space_text contents pages) spaces

-- so many pages of a run from one on
abbrev pub part_of_run : List (List ℕ) → PlacedRun → ℕ → ℕ → List ℕ
part_of_run contents r behind count =
    flat_map (λ k. placed_text contents (page_of_run r (behind + k))) (range_with_len 0 count)

-- pages that lie one after the other in bytes that were read
abbrev pub pages_text : ℕ → List ℕ → ℕ → List ℕ
pages_text first bytes count = flat_map
    (λ k. page_text (4096 * (first + k)) (slice_range bytes (4096 * k) (4096 * k + 4096))) (range_with_len 0 count)

-- What `verify` prints: what is shown, and how many slots are open.
abbrev pub verdict_text : Option (ℕ × PlainMemory) → ℕ → List ℕ
verdict_text (Some moment) images =
    codes "ok checkpoint " ++ decimal moment.0 ++ codes " images " ++ decimal images ++ 10 ∷ []
verdict_text None images = codes "ok empty" ++ 10 ∷ []
