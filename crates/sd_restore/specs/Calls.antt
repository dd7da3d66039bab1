-- How many calls of the device a store is read with.
use Rattle.std.specs.Prelude.{ℕ, ◌+◌, ◌≤◌, nat_le, nat_lt, if◌then◌else◌, List, Result, Ok, Err, length, slice_range}
use Rattle.std.specs.Prelude.{sum_by}
use Rattle.sd_image.specs.declared.header.Header.{Header}
use Rattle.sd_image.specs.declared.header.Version.{Version}
use Rattle.sd_image.specs.declared.header.Version.TheVariants.{One, Two}
use Rattle.sd_image.specs.declared.reason.Reason.{Reason}
use Rattle.sd_image.specs.Image.{Image, is_open}
use Rattle.sd_image.specs.Reading.{header_in}
use Rattle.sd_image.specs.Shows.{IsStore, IsTip}
use Rattle.sd_restore.specs.Mapped.{mapped_pages}

-- of so many data pages, those that are read for the digest of an image of this version
abbrev pub pages_digested : Version → ℕ → ℕ
pages_digested One pages = 0
pages_digested Two pages = pages

-- of a table of so many bytes, the fronts that are read before all of it: none, unless it is longer than any of a dump
unfoldable pub fronts_read : ℕ → ℕ
fronts_read table_len = if nat_le table_len 2097152 then 0 else 42

abbrev pub calls_left_after : Result Header Reason → ℕ
calls_left_after (Ok h) = fronts_read h.table_len + pages_digested h.version h.pages
calls_left_after (Err reason) = 0

-- a slot: its length; its first bytes, where the file is as long as a header; where the slot is open, its table, after
-- the fronts of a long one, and in version 2 its data pages
abbrev pub calls_for : List ℕ → ℕ
calls_for file =
    if nat_lt (length file) 4096 then 1
    else (if is_open file then 3 + calls_left_after (header_in (slice_range file 0 4096) (length file)) else 2)

-- all slots
abbrev pub scan_calls : List (List ℕ) → ℕ
scan_calls contents = sum_by calls_for contents

-- the newest image, where the contents are a store that has one, has at most so many mapped pages
abbrev pub HasPagesWithin : List (List ℕ) → ℕ → Type 0
HasPagesWithin contents count = (images : List Image) (tip : Image) → IsStore contents images → IsTip images tip
    → length (mapped_pages tip.spaces) ≤ count
